-- The form of the document in a file of a version.
use Rattle.vault_model.specs.declared.forms.DocForm.{DocForm}
use Rattle.vault_model.specs.declared.forms.DocForm.TheVariants.{V3, V4}
use Rattle.vault_model.specs.declared.forms.FileVersion.{FileVersion}
use Rattle.vault_model.specs.declared.forms.FileVersion.TheVariants.{V31, V40, V41}

-- The form of the document in a file of a version.
abbrev pub form_of : FileVersion → DocForm
form_of V31 = V3
form_of V40 = V4
form_of V41 = V4
