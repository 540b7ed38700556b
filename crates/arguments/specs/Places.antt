-- Where evidence about a property is kept.
use Rattle.std.specs.Prelude.{ℕ, List, Option, None, Some}
use Rattle.arguments.specs.declared.request.Kept.{Kept}
use Rattle.arguments.specs.declared.request.Kept.TheVariants.{Nowhere, Certificate, Witness, Folder}

-- the name of the folder, where it is one
abbrev pub folder_of : Kept → Option (List ℕ)
folder_of Nowhere = None
folder_of (Certificate name) = None
folder_of (Witness name) = None
folder_of (Folder name) = Some name.now

-- the name of the file or the folder, where there is one
abbrev pub name_of : Kept → Option (List ℕ)
name_of Nowhere = None
name_of (Certificate name) = Some name.now
name_of (Witness name) = Some name.now
name_of (Folder name) = Some name.now
