-- The plain files hold their documents, and the words are tasks of theirs.
use Rattle.std.proofs.Common.{◌≡◌, ℕ, true, false, cond, inl, inr, List, [], ◌∷◌, Option, Some, None, Ok, length, codes, nat_le, refl, sym, ap, subst, ◌∙◌, arith}
use Rattle.std.proofs.lemmas.Bool.{leb-true}
use Rattle.std.specs.Fmt.{digits}
use Rattle.std.specs.FinMap.{empty, get, get-insert, insert}
use Rattle.outside_core.specs.Files.{FileMap}
use Rattle.base64.specs.Rfc4648.{encode_symbols}
use Rattle.stream_core.specs.InnerStream.{NoKeystream}
use Rattle.markup_grammar.specs.Escapes.{escaped_byte}
use Rattle.vault_model.specs.Db.{Db}
use Rattle.vault_model.specs.Join.{Agreed, IsIn, is_id, join}
use Rattle.vault_model.specs.Tree.{BareDoc, IsDoc, db_in}
use Rattle.vault_model.specs.declared.forms.DocForm.TheVariants.{Plain}
use Rattle.vault_model.proofs.Orders.{bytes_order}
use Rattle.merge_core.specs.Example.{as_it_was, copies, edited, moved}
use Rattle.merge_core.proofs.ExampleAgrees.{example_agreed}
use Rattle.merge_core.proofs.PlanLaws.{join_one}
use Rattle.merge_core.proofs.SoundDoc.{document_sound}
use Rattle.merge_core.specs.Refusals.{members}
use Rattle.agreed_laws.specs.Merges.{AreDocs}
use Rattle.merge_again.proofs.MergeAgain.{parts_are_joined}
use Rattle.history_laws.proofs.FreeLaws.{calm_agreed, calm_begin}
use Rattle.doc_spelling.specs.Moments.{moment_at, month_from, year_from}
use Rattle.doc_spelling.specs.Ranges.{IsWritable, are_bytes}
use Rattle.doc_spelling.proofs.GoodDocs.{doc_good}
use Rattle.doc_spelling.proofs.RangeTests.{hash_if}
use Rattle.doc_spelling.proofs.ReadsBack.{says_document}
use Rattle.merge_examples.specs.Cases.{bare}
use Rattle.merge_examples.proofs.Merged.{doc_first, doc_second, doc_third}
use Rattle.merge_examples.proofs.Settled.{bare_doc, bare_settled}
use Rattle.cli_needs.specs.declared.command.Access.{Access}
use Rattle.cli_needs.specs.declared.command.Command.TheVariants.{Merge}
use Rattle.cli_lines.specs.Lines.{Lines}
use Rattle.cli_files.specs.Files.{Opened, plain_document}
use Rattle.cli_files.specs.Tasks.{Task}
use Rattle.cli_databases.specs.Held.{HoldsSource, IsPlain}
use Rattle.keepass_call.specs.Held.{IsTask}
use Rattle.law_examples.specs.Files.{ThreeFilesAgree, TwoFilesAreMerged, merge_three, plain_bytes, three_files, two_files, world_of}

-- ---- documents that can be written, and are short

pub write_first : IsWritable as_it_was
unfolding are_bytes
write_first = record { fits = refl; nodes = omega arith; pool = omega arith }

pub write_second : IsWritable edited
unfolding are_bytes
write_second = record { fits = refl; nodes = omega arith; pool = omega arith }

pub write_third : IsWritable moved
unfolding are_bytes
write_third = record { fits = refl; nodes = omega arith; pool = omega arith }

write_bare : IsWritable bare
unfolding are_bytes
write_bare = record { fits = refl; nodes = omega arith; pool = omega arith }

short_first : nat_le (length (plain_bytes as_it_was)) 10000 ≡ true
unfolding escaped_byte moment_at year_from month_from digits encode_symbols
short_first = refl

short_second : nat_le (length (plain_bytes edited)) 10000 ≡ true
unfolding escaped_byte moment_at year_from month_from digits encode_symbols
short_second = refl

short_third : nat_le (length (plain_bytes moved)) 10000 ≡ true
unfolding escaped_byte moment_at year_from month_from digits encode_symbols
short_third = refl

short_bare : nat_le (length (plain_bytes bare)) 10000 ≡ true
unfolding escaped_byte moment_at year_from month_from digits encode_symbols
short_bare = refl

-- ---- files that hold them

pub says : (d : BareDoc) → IsDoc d → IsWritable d → plain_document (plain_bytes d) ≡ Ok (d, None)
unfolding plain_document
says d isd w = says_document Plain NoKeystream None (hash_if None refl) d (doc_good d isd w)

abbrev pub opened_as : BareDoc → Opened
opened_as d = record { doc = d; sealing = None; passed_over = [] }

pub is_plain : (files : FileMap) (name : List ℕ) (d : BareDoc) → IsDoc d → IsWritable d → nat_le (length (plain_bytes d)) 10000 ≡ true → get files name ≡ Some (plain_bytes d)
    → IsPlain name files (opened_as d)
is_plain files name d isd w short found =
    let low = leb-true (length (plain_bytes d)) 10000 short in
    record {
      bytes = plain_bytes d;
      there = record { found = found; within = omega (arith, low) };
      read = (d, None);
      says = says d isd w;
      is = refl;
    }

-- the file that was put there last, and those before it
pub put_last : (files : FileMap) (name bytes : List ℕ) (other : List ℕ) → get (insert files name bytes) other ≡ cond (is_id other name) (Some bytes) (get files other)
put_last files name bytes other = get-insert bytes_order.total files name bytes other

abbrev first_two : FileMap
first_two = insert (insert empty (codes "a.xml") (plain_bytes as_it_was)) (codes "b.xml") (plain_bytes edited)

abbrev first_one : FileMap
first_one = insert empty (codes "a.xml") (plain_bytes as_it_was)

pub found_first : get three_files (codes "a.xml") ≡ Some (plain_bytes as_it_was)
found_first =
    put_last first_two (codes "c.xml") (plain_bytes moved) (codes "a.xml")
    ∙ put_last first_one (codes "b.xml") (plain_bytes edited) (codes "a.xml")
    ∙ put_last empty (codes "a.xml") (plain_bytes as_it_was) (codes "a.xml")

pub found_second : get three_files (codes "b.xml") ≡ Some (plain_bytes edited)
found_second =
    put_last first_two (codes "c.xml") (plain_bytes moved) (codes "b.xml")
    ∙ put_last first_one (codes "b.xml") (plain_bytes edited) (codes "b.xml")

pub found_third : get three_files (codes "c.xml") ≡ Some (plain_bytes moved)
found_third = put_last first_two (codes "c.xml") (plain_bytes moved) (codes "c.xml")

-- ---- the merge of three

abbrev plainly : Access
plainly = record { plain = true; quiet = false; key_file = None; no_password = false }

abbrev no_lines : List (Option (List ℕ)) → Lines
no_lines sources = record { password = None; sources = sources; more = None; otp = None; fields = [] }

abbrev pub three_task : Task
three_task = record {
  command = Merge plainly (codes "a.xml") (codes "b.xml" ∷ codes "c.xml" ∷ []) plainly false false false;
  lines = no_lines (None ∷ None ∷ []);
  opened = opened_as as_it_was;
  sources = edited ∷ moved ∷ [];
  attached = None;
}

source_is : (files : FileMap) (name : List ℕ) (d : BareDoc) → IsPlain name files (opened_as d) → HoldsSource plainly false None None name files d
source_is files name d h = record { opened = opened_as d; holds = h; is = refl }

pub plain_first : IsPlain (codes "a.xml") three_files (opened_as as_it_was)
plain_first = is_plain three_files (codes "a.xml") as_it_was doc_first write_first short_first found_first

pub plain_second : IsPlain (codes "b.xml") three_files (opened_as edited)
plain_second = is_plain three_files (codes "b.xml") edited doc_second write_second short_second found_second

pub plain_third : IsPlain (codes "c.xml") three_files (opened_as moved)
plain_third = is_plain three_files (codes "c.xml") moved doc_third write_third short_third found_third

pub three_is_task : (time : ℕ) → IsTask merge_three time (world_of three_files) three_task
three_is_task time = record {
  is_command = refl;
  are_lines = refl;
  holds = record {
    target = plain_first;
    sources = (source_is three_files (codes "b.xml") edited plain_second, (source_is three_files (codes "c.xml") moved plain_third, tt));
  };
  attaches = refl;
}

member : (m : Db) → IsIn m copies → (n : Db) → IsIn n (m ∷ []) → IsIn n copies
member m h n k = elim k [ inl p ↦ subst (λ (x : Db). IsIn x copies) p h | inr z ↦ absurd z ]

pub three_files_agree : ThreeFilesAgree
three_files_agree time = record {
  task = three_task;
  is_task = three_is_task time;
  is_merge = refl;
  set = copies;
  agreed = example_agreed;
  are_parts = (
    (tt, member (db_in as_it_was) (inl refl)),
    ((tt, member (db_in edited) (inr (inl refl))), ((tt, member (db_in moved) (inr (inr (inl refl)))), tt)),
  );
  joins =
      ap (λ m. m ∷ db_in edited ∷ db_in moved ∷ []) (sym (join_one copies example_agreed (db_in as_it_was) (inl refl)))
      ∙ ap (λ m. join (db_in as_it_was ∷ []) ∷ m ∷ db_in moved ∷ []) (sym (join_one copies example_agreed (db_in edited) (inr (inl refl))))
      ∙ ap (λ m. join (db_in as_it_was ∷ []) ∷ join (db_in edited ∷ []) ∷ m ∷ []) (sym (join_one copies example_agreed (db_in moved) (inr (inr (inl refl)))));
}

-- ---- the merge of two

abbrev two_task : Task
two_task = record {
  command = Merge plainly (codes "a.xml") (codes "b.xml" ∷ []) plainly false false false;
  lines = no_lines (None ∷ []);
  opened = opened_as bare;
  sources = bare ∷ [];
  attached = None;
}

found_target : get two_files (codes "a.xml") ≡ Some (plain_bytes bare)
found_target =
    put_last (insert empty (codes "a.xml") (plain_bytes bare)) (codes "b.xml") (plain_bytes bare) (codes "a.xml")
    ∙ put_last empty (codes "a.xml") (plain_bytes bare) (codes "a.xml")

found_source : get two_files (codes "b.xml") ≡ Some (plain_bytes bare)
found_source = put_last (insert empty (codes "a.xml") (plain_bytes bare)) (codes "b.xml") (plain_bytes bare) (codes "b.xml")

abbrev one : List Db
one = db_in bare ∷ []

agreed_one : Agreed one
agreed_one = calm_agreed one (calm_begin (db_in bare) (document_sound bare bare_doc))

both_docs : AreDocs (bare ∷ bare ∷ [])
both_docs d (inl p) = subst IsDoc p bare_doc
both_docs d (inr (inl p)) = subst IsDoc p bare_doc
both_docs d (inr (inr z)) = absurd z

joined_two : join (members bare (bare ∷ [])) ≡ db_in bare
joined_two =
    let same : db_in bare ≡ join one = sym (join_one one agreed_one (db_in bare) (inl refl)) in
    parts_are_joined bare (bare ∷ []) one one (one ∷ []) both_docs agreed_one (tt, λ n k. k) ((tt, λ n k. k), tt)
    (ap (λ m. m ∷ db_in bare ∷ []) same ∙ ap (λ m. join one ∷ m ∷ []) same)

pub two_files_are_merged : TwoFilesAreMerged
two_files_are_merged time = record {
  task = two_task;
  is_task = record {
    is_command = refl;
    are_lines = refl;
    holds = record {
      target = is_plain two_files (codes "a.xml") bare bare_doc write_bare short_bare found_target;
      sources = (source_is two_files (codes "b.xml") bare (is_plain two_files (codes "b.xml") bare bare_doc write_bare short_bare found_source), tt);
    };
    attaches = refl;
  };
  is_merge = refl;
  settled = bare_settled;
  joined = joined_two;
}
