-- What ties the code to the definitions: of it nothing has to be believed.
pub mod CommandLaws
pub mod CheckLaws
pub mod FormLaws
