-- The texts of a record are in UTF-8.
use Rattle.std.proofs.Common.{◌≡◌, ◌==◌, ◌&&◌, ℕ, true, false, Bool, List, [], ◌∷◌, Option, Some, None, refl, cond, subst}
use Rattle.std.specs.Prelude.{IfSome}
use Rattle.std.specs.Option.{ForSome, option_or, unwrap_or}
use Rattle.std.proofs.lemmas.Option.{same_Some}
use Rattle.std.specs.Str.{is_utf8}
use Rattle.std.proofs.lemmas.Str.{IsUtf8-nil, is_utf8-from_IsUtf8}
use Rattle.import_tree.specs.Entries.{AreTexts}
use Rattle.psafe_core.specs.Records.{last_of, text_in, text_of}
use Rattle.psafe_file.specs.Fields.{SafeField}
use Rattle.psafe_file.specs.Kinds.{history_kind, notes_kind, password_kind, title_kind, url_kind, user_kind}

abbrev IsText : Option (List ℕ) → Type 0
IsText o = IfSome o (λ (t : List ℕ). is_utf8 t ≡ true)

kept_text : (b u : Bool) (content : List ℕ) → is_utf8 content ≡ u → IsText (cond (b && u) (Some content) None)
kept_text true true content is = is
kept_text true false content is = tt
kept_text false u content is = tt

or_text : (a b : Option (List ℕ)) → IsText a → IsText b → IsText (option_or a b)
or_text None b ha hb = hb
or_text (Some x) b ha hb = ha

last_text : (kind : ℕ) (fields : List SafeField) → IsText (last_of (text_in kind) fields)
last_text kind [] = tt
last_text kind (f ∷ fs) = or_text (last_of (text_in kind) fs) (text_in kind f) (last_text kind fs) (kept_text (f.kind == kind) (is_utf8 f.content) f.content refl)

text_or_nothing : (o : Option (List ℕ)) → IsText o → is_utf8 (unwrap_or o []) ≡ true
text_or_nothing None h = is_utf8-from_IsUtf8 [] IsUtf8-nil
text_or_nothing (Some t) h = h

text : (kind : ℕ) (fields : List SafeField) → is_utf8 (text_of kind fields) ≡ true
text kind fields = text_or_nothing (last_of (text_in kind) fields) (last_text kind fields)

given : (o : Option (List ℕ)) → IsText o → ForSome o (λ text. is_utf8 text ≡ true)
given None h text is = absurd (cc is)
given (Some t) h text is = subst (λ (u : List ℕ). is_utf8 u ≡ true) (same_Some t text is) h

pub record_texts : (fields : List SafeField) → AreTexts (text_of title_kind fields) (text_of user_kind fields) (text_of password_kind fields) (text_of url_kind fields) (text_of notes_kind fields) (last_of (text_in history_kind) fields) None
record_texts fields = record {
  title = text title_kind fields;
  user = text user_kind fields;
  password = text password_kind fields;
  url = text url_kind fields;
  notes = text notes_kind fields;
  history = given (last_of (text_in history_kind) fields) (last_text history_kind fields);
  otp = λ text is. absurd (cc is);
}
