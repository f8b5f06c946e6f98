-- What a member of the code has.
use Rattle.fs_words.specs.JsonObjects.{Value, Text, Number, Null}
use Rattle.fs_words.specs.declared.json_objects.Kind.{Kind}
use Rattle.fs_words.specs.declared.json_objects.Kind.TheVariants as kind

abbrev pub value_of : Kind → Value
value_of (kind.Text bytes) = Text bytes.now
value_of (kind.Number n) = Number n
value_of kind.Null = Null
