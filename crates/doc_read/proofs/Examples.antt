-- Documents small enough that what they say can be read off by hand.
use Rattle.std.proofs.Common.{◌≡◌, ℕ, Some, None, Err, Result, option_map, List, [], ◌∷◌, codes, refl}
use Rattle.base64.specs.Decode.{groups_error, scan_steps, groups_bytes}
use Rattle.jiff_core.specs.Calendar.{day_count, days_of_years, days_of_months}
use Rattle.markup_grammar.specs.Attributes.{attributes_from, last_named}
use Rattle.markup_grammar.specs.Bytes.{is_space}
use Rattle.markup_grammar.specs.Elements.{Content, Element, element, last, also}
use Rattle.stream_core.specs.InnerStream.{NoKeystream}
use Rattle.vault_model.specs.declared.forms.DocForm.TheVariants.{Plain}
use Rattle.doc_forms.specs.declared.fails.DocFail.TheVariants.{MissingElement, NilId}
use Rattle.doc_forms.specs.declared.fails.RequiredElement.TheVariants.{Uuid}
use Rattle.text_forms.specs.Texts.{base64_bytes, trim}
use Rattle.doc_forms.specs.Values.{iso_time, time}
use Rattle.doc_forms.specs.declared.fails.DocFail.{DocFail}
use Rattle.outside_core.specs.Results.{◌>>=◌}
use Rattle.vault_model.specs.Tree.{Tree, node, id_of}
use Rattle.std.specs.Result.{result_ok}
use Rattle.std.specs.Str.{is_utf8, chars}
use lib.Utf8.{encode}
use Rattle.doc_forms.specs.Children.{all_children, by_name}
use Rattle.doc_forms.specs.ElementTexts.{Setting, start}
use Rattle.doc_forms.specs.Documents.{DocumentAndHash, document_rows, resolved_document}

pub bytes : base64_bytes (codes "AAECAwQFBgcICQoLDA0ODw==") ≡ Some (0 ∷ 1 ∷ 2 ∷ 3 ∷ 4 ∷ 5 ∷ 6 ∷ 7 ∷ 8 ∷ 9 ∷ 10 ∷ 11 ∷ 12 ∷ 13 ∷ 14 ∷ 15 ∷ [])
unfolding base64_bytes groups_error scan_steps groups_bytes
bytes = refl

pub no_white_space : trim (codes " \t a b\n ") ≡ codes "a b"
unfolding trim is_space
no_white_space = refl

-- 1970-01-01 lies 719162 days after 0001-01-01
pub epoch : time (codes "1970-01-01T00:00:00Z") ≡ Some 62135596800
unfolding iso_time day_count days_of_years days_of_months
epoch = refl

pub no_leap_day : iso_time (codes "1900-02-29T00:00:00Z") ≡ None
unfolding iso_time
no_leap_day = refl

-- 62135596800 is 0x0E7791F700
pub count_node : time (codes "APeRdw4AAAA=") ≡ Some 62135596800
unfolding iso_time base64_bytes groups_error scan_steps groups_bytes
count_node = refl

-- ---- documents

abbrev leaf : ℕ → List ℕ → List ℕ → Element
leaf offset name text = element offset name [] (last text)

abbrev group_id : Element
group_id = leaf 5 (codes "UUID") (codes "AAECAwQFBgcICQoLDA0ODw==")

abbrev bytes16 : List ℕ
bytes16 = 0 ∷ 1 ∷ 2 ∷ 3 ∷ 4 ∷ 5 ∷ 6 ∷ 7 ∷ 8 ∷ 9 ∷ 10 ∷ 11 ∷ 12 ∷ 13 ∷ 14 ∷ 15 ∷ []

abbrev by_itself : Setting
by_itself = record { form = Plain; keystream = NoKeystream }

-- a root group with these children
abbrev with_children : Content → Content
with_children content =
    also [] (element 0 (codes "KeePassFile") [] (also [] (element 1 (codes "Root") [] (also [] (element 3 (codes "Group") [] content) (last []))) (last []))) (last [])

abbrev read_content : Content → Result DocumentAndHash DocFail
read_content content = all_children (by_name by_itself (document_rows by_itself)) content None start >>= λ x. resolved_document Plain [] x.0

-- the group's own name counts, a `Name` in an unknown element does not, and white space is no part of an id
abbrev named : Content
named = with_children (also [] (leaf 5 (codes "UUID") (codes "\n AAECAwQFBgcICQoLDA0ODw==")) (also [] (leaf 6 (codes "Name") (codes " a ")) (also [] (element 7 (codes "Names") [] (also [] (leaf 8 (codes "Name") (codes "b")) (last []))) (last []))))

abbrev names : DocumentAndHash → List ℕ × List ℕ
names r = (id_of r.0.tree, name_in r.0.tree)
  where
    name_in : Tree → List ℕ
    name_in (node u r es ts) = r.state.content.name

pub root_group : option_map names (result_ok (read_content named)) ≡ Some (bytes16, codes " a ")
unfolding base64_bytes trim is_space groups_error scan_steps groups_bytes attributes_from last_named is_utf8 chars encode
root_group = refl

-- a group without an id, and one with the nil id
pub no_id : read_content (with_children (last [])) ≡ Err (MissingElement Uuid 3)
unfolding attributes_from last_named
no_id = refl

pub nil_group : read_content (with_children (also [] (leaf 5 (codes "UUID") (codes "AAAAAAAAAAAAAAAAAAAAAA==")) (last []))) ≡ Err (NilId 3)
unfolding base64_bytes trim is_space groups_error scan_steps groups_bytes attributes_from last_named
nil_group = refl
