-- Sources that are opened one after another.
use Rattle.std.proofs.Common.{◌≡◌, ◌≤◌, ◌-◌, ℕ, List, [], ◌∷◌, ◌++◌, length, map, take, drop, sym, ◌∙◌, ap, subst, arith, slice_index_or, Bool, Option, Result, Ok, Err}
use Rattle.std.specs.Prelude.{IfErr, OnOk}
use Rattle.std.proofs.lemmas.List.{append_assoc, map-append, take_all}
use Rattle.outside_core.specs.Files.{FileMap}
use Rattle.outside_core.specs.Results.{◌>>=◌}
use Rattle.secret_core.specs.Secret.{SecretBuffer}
use Rattle.vault_model.specs.SeenDoc.{doc_seen}
use Rattle.vault_model.specs.Tree.{BareDoc}
use Rattle.vault_model.specs.declared.documents.Doc.{Doc}
use Rattle.cli_messages.specs.declared.answers.Refusal.{Refusal}
use Rattle.cli_messages.specs.declared.answers.Stop.{Stop}
use Rattle.cli_messages.specs.Phases.{IsFileStop, Returns, Stops}
use Rattle.cli_needs.specs.declared.command.Access.{Access}
use Rattle.cli_needs.specs.Needs.{database_files, source_files}
use Rattle.cli_lines.specs.SeenLines.{line_seen}
use Rattle.cli_files.specs.Files.{Opened}
use Rattle.cli_databases.specs.Databases.{docs_from, document_in, password_from}
use Rattle.cli_databases.specs.SomeFiles.{GainsSources, SomeHolds, SomeSources}
use Rattle.cli_files.proofs.FileStops.{first_at_files, later_at_files}
use Rattle.cli_databases.proofs.Phases.{stops_both}

-- A list by its first element and what is left.
pub first_and_rest : {A : Type 0} (items rest : List A) (item : A) → 1 ≤ length items → rest ≡ take (length items - 1) (drop 1 items)
    → item ≡ slice_index_or items 0 item → items ≡ item ∷ rest
first_and_rest [] rest item l r i = absurd (omega (arith, l))
first_and_rest (x ∷ items) rest item l r i =
    let same : rest ≡ items = r ∙ take_all (length (x ∷ items) - 1) items (omega arith) in
    ap (λ y. y ∷ items) (sym i) ∙ ap (λ ys. item ∷ ys) (sym same)

-- Lines by the first of them and what is left, as they are seen.
pub line_and_rest : (lines rest : List (Option SecretBuffer)) (line : Option SecretBuffer) → 1 ≤ length lines
    → rest ≡ take (length lines - 1) (drop 1 lines) → line ≡ slice_index_or lines 0 line → map line_seen lines ≡ line_seen line ∷ map line_seen rest
line_and_rest lines rest line l r i = ap (map line_seen) (first_and_rest lines rest line l r i)

-- Documents with one more, as they are seen.
pub one_more : (docs now : List Doc) (doc : Doc) → now ≡ docs ++ doc ∷ [] → map doc_seen now ≡ map doc_seen docs ++ doc_seen doc ∷ []
one_more docs now doc h = ap (map doc_seen) h ∙ map-append doc_seen docs (doc ∷ [])

-- The first source is opened, and then those that are left.
docs_first : (from : Access) (same : Bool) (target password line : Option (List ℕ)) (name : List ℕ) (names rest : List (List ℕ))
    (lines more : List (Option (List ℕ))) (docs : List BareDoc) (files : FileMap) → names ≡ name ∷ rest → lines ≡ line ∷ more
    → password ≡ password_from same target line → docs_from from same target names lines docs files
    ≡ (document_in from name password files >>= λ x. docs_from from same target rest more (docs ++ x ∷ []) files)
unfolding docs_from
docs_first from same target password line name names rest lines more docs files n l p =
    ap (λ ns. docs_from from same target ns lines docs files) n
    ∙ ap (λ ls. docs_from from same target (name ∷ rest) ls docs files) l
    ∙ ap (λ w. document_in from name w files >>= λ x. docs_from from same target rest more (docs ++ x ∷ []) files) (sym p)

-- One source is opened, and then those that are left.
docs_next : (from : Access) (same : Bool) (target password line : Option (List ℕ)) (name : List ℕ) (names rest : List (List ℕ))
    (lines more : List (Option (List ℕ))) (docs now : List BareDoc) (doc : BareDoc) (files : FileMap) → names ≡ name ∷ rest → lines ≡ line ∷ more
    → password ≡ password_from same target line → now ≡ docs ++ doc ∷ [] → document_in from name password files ≡ Ok doc
    → docs_from from same target names lines docs files ≡ docs_from from same target rest more now files
docs_next from same target password line name names rest lines more docs now doc files n l p d h =
    docs_first from same target password line name names rest lines more docs files n l p
    ∙ ap (λ r. r >>= λ x. docs_from from same target rest more (docs ++ x ∷ []) files) h
    ∙ ap (λ ds. docs_from from same target rest more ds files) (sym d)

pub told_next : {X : Type 0} (result : Result X Stop) (from : Access) (same : Bool) (target password line : Option (List ℕ)) (name : List ℕ)
    (names rest : List (List ℕ)) (lines more : List (Option (List ℕ))) (docs now all : List BareDoc) (doc : BareDoc) (files : FileMap)
    → names ≡ name ∷ rest → lines ≡ line ∷ more → password ≡ password_from same target line → now ≡ docs ++ doc ∷ []
    → document_in from name password files ≡ Ok doc → Returns (λ x. all) result (docs_from from same target rest more now files)
    → Returns (λ x. all) result (docs_from from same target names lines docs files)
told_next result from same target password line name names rest lines more docs now all doc files n l p d h r =
    subst (λ (e : Result (List BareDoc) _). Returns (λ x. all) result e) (sym (docs_next from same target password line name names rest lines more docs now doc files n l p d h)) r

-- Some bytes hold the document of one source, and some those of the sources that are left.
pub some_next : {X : Type 0} (result : Result X Stop) (from : Access) (same : Bool) (target password line : Option (List ℕ)) (name : List ℕ)
    (names rest : List (List ℕ)) (lines more : List (Option (List ℕ))) (docs now all : List BareDoc) (doc : BareDoc)
    → names ≡ name ∷ rest → lines ≡ line ∷ more → password ≡ password_from same target line → now ≡ docs ++ doc ∷ []
    → ((opened : Opened) × (SomeHolds from.plain from.key_file password opened × (opened.doc ≡ doc)))
    → OnOk result (GainsSources from same target rest more now all) → OnOk result (GainsSources from same target names lines docs all)
some_next (Err stop) from same target password line name names rest lines more docs now all doc n l p d s g = tt
some_next (Ok x) from same target password line name names rest lines more docs now all doc n l p d s g = record {
  sources = doc ∷ g.sources;
  gained = g.gained ∙ ap (λ ds. ds ++ g.sources) d ∙ append_assoc docs (doc ∷ []) g.sources;
  some = subst (λ (ns : List (List ℕ)). SomeSources from same target ns lines (doc ∷ g.sources)) (sym n)
      (subst (λ (ls : List (Option (List ℕ))). SomeSources from same target (name ∷ rest) ls (doc ∷ g.sources)) (sym l) (
        record {
          opened = s.0;
          holds = subst (λ (w : Option (List ℕ)). SomeHolds from.plain from.key_file w s.0) p s.1.0;
          is = s.1.1;
        },
        g.some,
      ));
}

-- A stop at a source that is left.
pub stops_next : {X : Type 0} (result : Result X Stop) (from : Access) (name : List ℕ) (names rest : List (List ℕ)) (f f' f'' a a' a'' : ℕ)
    → names ≡ name ∷ rest → f ≤ f' → a ≤ a' → IfErr result (IsFileStop (source_files from rest) f' f'' a' a'')
    → IfErr result (IsFileStop (source_files from names) f f'' a a'')
stops_next (Ok x) from name names rest f f' f'' a a' a'' n p q h = tt
stops_next (Err stop) from name names rest f f' f'' a a' a'' n p q h =
    subst (λ (ns : List (List ℕ)). IsFileStop (source_files from ns) f f'' a a'' stop) (sym n)
    (later_at_files (database_files from name) (source_files from rest) f f' f'' a a' a'' stop p q h)

-- The first source is not opened.
pub told_stop : (stop : Stop) (from : Access) (same : Bool) (target password line : Option (List ℕ)) (name : List ℕ) (names rest : List (List ℕ))
    (lines more : List (Option (List ℕ))) (docs : List BareDoc) (files : FileMap) → names ≡ name ∷ rest → lines ≡ line ∷ more
    → password ≡ password_from same target line → Stops stop (document_in from name password files) → Stops stop (docs_from from same target names lines docs files)
told_stop stop from same target password line name names rest lines more docs files n l p h =
    subst (λ (r : Result (List BareDoc) Refusal). Stops stop r)
    (sym (docs_first from same target password line name names rest lines more docs files n l p))
    (stops_both stop (document_in from name password files) (λ x. docs_from from same target rest more (docs ++ x ∷ []) files) h)

-- A stop at the first source.
pub stops_first : (stop : Stop) (from : Access) (name : List ℕ) (names rest : List (List ℕ)) (f f' a a' : ℕ) → names ≡ name ∷ rest
    → IsFileStop (database_files from name) f f' a a' stop → IsFileStop (source_files from names) f f' a a' stop
stops_first stop from name names rest f f' a a' n h =
    subst (λ (ns : List (List ℕ)). IsFileStop (source_files from ns) f f' a a' stop) (sym n)
    (first_at_files (database_files from name) (source_files from rest) f f' a a' stop h)
