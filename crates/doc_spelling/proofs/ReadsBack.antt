-- The text of a document is in the grammar, and reads back.
use Rattle.std.proofs.Common.{◌≡◌, ℕ, ◌==◌, Bool, true, false, not, Option, None, List, [], ◌∷◌, Result, Ok, Err, length, codes, ap, refl, ◌∙◌, arith}
use Rattle.std.proofs.lemmas.Str.{IsUtf8-append, IsUtf8-nil}
use Rattle.std.specs.List.{list_all}
use Rattle.markup_grammar.proofs.ElementsTold.{elements_told}
use Rattle.markup_grammar.proofs.Firsts.{ends_nil, instruction_byte}
use Rattle.markup_grammar.specs.Bytes.{is_space}
use Rattle.markup_grammar.specs.Elements as told
use Rattle.markup_grammar.specs.Elements.{content_of}
use Rattle.markup_grammar.specs.Tree.{instruction_end, EndsFirst, IsText, spelled, spelled_front}
use Rattle.markup_grammar.specs.TreeElements.{tree_content}
use Rattle.stream_core.specs.InnerStream.{Keystream}
use Rattle.vault_model.proofs.Tests.{and_true}
use Rattle.vault_model.specs.Tree.{BareDoc}
use Rattle.doc_forms.specs.declared.cursor.Cursor.{Cursor}
use Rattle.doc_forms.specs.declared.fails.DocFail.{DocFail}
use Rattle.doc_forms.specs.Documents.{FileParts, DocumentAndHash, document_rows, resolved_document, document}
use Rattle.doc_forms.specs.Attachments.{binaries_from}
use Rattle.doc_forms.specs.ElementTexts.{Setting, start}
use Rattle.doc_forms.specs.Children.{by_name, all_children}
use Rattle.outside_core.specs.Results.{◌>>=◌}
use Rattle.vault_model.specs.declared.forms.DocForm.{DocForm}
use Rattle.doc_spelling.specs.Pieces.{element_of}
use Rattle.doc_spelling.specs.Pool.{pool_of}
use Rattle.doc_spelling.specs.Documents.{file_piece, written_tree, spelled_document, pool_apart, hash_named}
use Rattle.doc_spelling.proofs.FittingPieces.{document_fits}
use Rattle.doc_spelling.proofs.Goods.{If, IsHash}
use Rattle.doc_spelling.proofs.ReadDocuments.{document_texts}
use Rattle.doc_spelling.proofs.ResolvedAgain.{GoodDoc, said_again}
use Rattle.doc_spelling.proofs.SoundPieces.{Sound, sound}
use Rattle.doc_spelling.proofs.ValueTexts.{literal}

-- ---- the declaration

differs : (b : ℕ) → not (b == 63) ≡ true → (b == 63) ≡ false
differs b e = turned (b == 63) e
  where
    turned : (c : Bool) → not c ≡ true → c ≡ false
    turned true e = cc e
    turned false e = refl

no_mark : (body : List ℕ) → list_all (λ b. not (b == 63)) body ≡ true → EndsFirst instruction_end body
no_mark [] e = ends_nil 63 (62 ∷ [])
no_mark (b ∷ body) e =
    let both = and_true (not (b == 63)) (list_all (λ b. not (b == 63)) body) e in
    instruction_byte b body (differs b both.0) (no_mark body both.1)

line_feed : is_space 10 ≡ true
unfolding is_space
line_feed = refl

-- ---- the law

regrouped : (r : Result (Option FileParts × Cursor) DocFail) (f : Option FileParts → Result DocumentAndHash DocFail)
    → ◌>>=◌ {B = DocumentAndHash} (◌>>=◌ {B = Option FileParts} r (λ x. Ok x.0)) f ≡ ◌>>=◌ {B = DocumentAndHash} r (λ x. f x.0)
regrouped (Ok x) f = refl
regrouped (Err e) f = refl

abbrev declaration : List ℕ
declaration = codes "xml version=\"1.0\" encoding=\"utf-8\""

module _ (form : DocForm) (k : Keystream) (hash : Option (List ℕ)) (good_hash : If IsHash hash) (d : BareDoc) (good : GoodDoc d) where
  pub is_sound : Sound 136 (element_of k 0 (file_piece form hash (pool_of d) d))
  is_sound = sound (file_piece form hash (pool_of d) d) 136 (document_fits form hash (pool_of d) d good.levels)
      (document_texts (record { form = form; keystream = k }) (binaries_from 0 (pool_of d)) form (pool_of d) refl d good.tree good.levels good.tombs hash good_hash good.binaries good.meta) k 0

  -- the text is in the grammar
  pub is_written : IsText (spelled_document form k hash d) (written_tree form k hash d)
  is_written = record {
    front = (no_mark declaration refl, (line_feed, tt));
    root = is_sound.is;
    back = tt;
    spells = refl;
    utf8 = IsUtf8-append (spelled_front (written_tree form k hash d)) _ (literal 60 _ refl) (IsUtf8-append (spelled (written_tree form k hash d).root) [] is_sound.utf8 IsUtf8-nil);
  }

  -- and reads back
  pub says_document : document (record { form = form; keystream = k }) (pool_apart form d) (spelled_document form k hash d) ≡ Ok (d, hash_named form hash)
  says_document =
      let s : Setting = record { form = form; keystream = k } in
      let text = spelled_document form k hash d in
      let tree = written_tree form k hash d in
      let rest = λ (x : Option FileParts). resolved_document form (pool_apart form d) x in
      ap (λ (content : told.Content). ◌>>=◌ {B = DocumentAndHash} (◌>>=◌ {B = Option FileParts} (all_children (by_name s (document_rows s)) content None start) (λ x. Ok x.0)) rest) (elements_told text tree is_written (omega (arith, is_sound.low)))
      ∙ (regrouped (all_children (by_name s (document_rows s)) (tree_content tree) None start) rest ∙ said_again s form refl hash good_hash d good (length (spelled_front tree)))
