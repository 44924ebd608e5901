-- What the root of a key document tells, and whether what stands behind it is whole.
use Rattle.std.proofs.Common.{ℕ, ◌≡◌, ◌∙◌, sym, ap, true, false, ◌&&◌, Option, Some, None, List, [], ◌∷◌}
use Rattle.std.specs.Prelude.{codes, option_map, Result, Ok, Err}
use Rattle.markup_core.specs.MarkupGrammar.Answers.{Answer, start, words, stop, finish}
use Rattle.markup_core.specs.MarkupGrammar.Elements.{Content, innermost, outer_contents, open_contents}
use Rattle.markup_core.specs.MarkupGrammar.Escapes.{unescaped}
use Rattle.markup_core.specs.MarkupGrammar.Reading.{answers}
use Rattle.markup_core.specs.Next.{Answers}
use Rattle.markup_core.specs.declared.piece.MarkupFail.{MarkupFail}
use Rattle.markup_core.specs.declared.piece.MarkupFail.TheVariants.{Form, Depth}
use Rattle.key_core.specs.KeyDocument.{is_whole, last_says, held_by, version_of_meta, told_of_key, root_of, document_key}
use Rattle.key_core.specs.KeyFile.{key_by, key_file_key, plain_key}
use Rattle.key_core.specs.Reading.{are_whole, Ends, IsRead, Reads, Says, says_of}
use Rattle.key_core.specs.declared.key_file.KeyFileFail.{KeyFileFail}
use Rattle.key_core.specs.declared.key_file.KeyFileFail.TheVariants.{KeyFileForm}
use Rattle.key_core.specs.declared.reading.Stopped.{Stopped}
use Rattle.key_core.specs.declared.reading.Stopped.TheVariants.{Cut, NoMemory}
use Rattle.key_core.proofs.Steps.{prepended_whole, start_came, words_came, stop_came}

-- what a root tells, given what was told before
abbrev pub says_further : Says → Content → Says
says_further says content = (
  last_says (codes "Meta") (λ meta. version_of_meta (held_by meta)) says.0 content,
  last_says (codes "Key") (λ key. told_of_key (held_by key)) says.1 content,
)

-- what stands behind the root is whole as long as its pieces come
pub start_behind : {A : Type 0} (place : ℕ) (name raw : List ℕ) (value says : A) (old mid new : List Answer)
    → old ≡ start place name raw ∷ mid → IsRead value says mid new
    → is_whole (innermost (open_contents new)) ≡ is_whole (innermost (open_contents old))
start_behind place name raw value says old mid new h r =
    let came = start_came place name raw old mid h in
    ap (λ cs. is_whole (innermost cs)) r.rest ∙ sym (ap (λ b. b && is_whole (innermost (outer_contents (open_contents mid)))) r.whole)
    ∙ sym (ap is_whole came.0)

start_cut : (place : ℕ) (name raw : List ℕ) (old mid : List Answer)
    → old ≡ start place name raw ∷ mid → are_whole mid ≡ false → is_whole (innermost (open_contents old)) ≡ false
start_cut place name raw old mid h broken =
    let came = start_came place name raw old mid h in ap is_whole came.0 ∙ broken

-- where the reading of an element is stopped, so is this
pub ends_stopped : (stopped : Stopped) (place : ℕ) (name raw : List ℕ)
    (first old mid new : List Answer) → is_whole (innermost (open_contents old)) ≡ is_whole (innermost (open_contents first))
    → old ≡ start place name raw ∷ mid → Reads {A = Unit {0}} {B = Unit {0}} (λ x. x) tt mid (Err stopped) new
    → Ends first (Err stopped)
ends_stopped Cut place name raw first old mid new same h broken =
    sym same ∙ start_cut place name raw old mid h broken
ends_stopped NoMemory place name raw first old mid new same h broken = tt

pub words_behind : (place : ℕ) (raw : List ℕ) (old new : List Answer) → old ≡ words place raw ∷ new
    → is_whole (innermost (open_contents new)) ≡ is_whole (innermost (open_contents old))
words_behind place raw old new h =
    let came = words_came place raw old new h in
    sym (ap is_whole came.0 ∙ prepended_whole (unescaped raw) (innermost (open_contents new)))

pub stop_behind : (place : ℕ) (old new : List Answer) → old ≡ stop place ∷ new → is_whole (innermost (open_contents old)) ≡ true
stop_behind place old new h = let came = stop_came place old new h in ap is_whole came.0

pub finish_behind : (old : List Answer) → old ≡ finish ∷ [] → is_whole (innermost (open_contents old)) ≡ true
unfolding open_contents
finish_behind old h = ap (λ a. is_whole (innermost (open_contents a))) h

pub refusal_behind : (fail : MarkupFail) (old new : List Answer) → Answers old (Err fail) new → is_whole (innermost (open_contents old)) ≡ false
unfolding open_contents
refusal_behind (Form place) old new h = ap (λ a. is_whole (innermost (open_contents a))) h.0
refusal_behind (Depth place) old new h = ap (λ a. is_whole (innermost (open_contents a))) h.0

-- the key of a file is told by what its root tells
abbrev keyed : Option Says → Result (List ℕ) KeyFileFail
keyed None = Err (KeyFileForm 0)
keyed (Some says) = document_key says.0 says.1

by_root : (bytes : List ℕ) (root : Option Content) (says : Says) → option_map says_of root ≡ Some says
    → key_by bytes root ≡ document_key says.0 says.1
by_root bytes None says h = cc
by_root bytes (Some root) says h = ap keyed h

pub key_found : (bytes : List ℕ) (says : Says) → option_map says_of (root_of (answers bytes)) ≡ Some says
    → key_file_key bytes ≡ document_key says.0 says.1
unfolding key_file_key
key_found bytes says h = by_root bytes (root_of (answers bytes)) says h

pub plain_found : (bytes : List ℕ) → root_of (answers bytes) ≡ None → key_file_key bytes ≡ Ok (plain_key bytes)
unfolding key_file_key
plain_found bytes h = ap (key_by bytes) h
