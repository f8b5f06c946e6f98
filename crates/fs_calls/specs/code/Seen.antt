-- What the code sees of a node, for the rows of errors.
use Rattle.std.specs.Prelude.{[], ◌∷◌, Option, Some, None, if◌then◌else◌}
use Rattle.fs_names.specs.Shapes as shapes
use Rattle.fs_names.specs.Shapes.{Shape, is_crowded}
use Rattle.fs_calls.specs.declared.rows.Sight.{Sight}
use Rattle.fs_calls.specs.declared.rows.Sight.TheVariants.{Nothing, File, EmptyDir, Dir, CrowdedDir}

-- what is seen where this stands
abbrev pub sight : Option Shape → Sight
sight None = Nothing
sight (Some (shapes.File bytes)) = File
sight (Some (shapes.Dir [])) = EmptyDir
sight (Some (shapes.Dir (x ∷ names))) = if is_crowded (Some (shapes.Dir (x ∷ names))) then CrowdedDir else Dir
