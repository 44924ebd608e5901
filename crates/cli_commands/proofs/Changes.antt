-- What commands make of a document.
use Rattle.std.proofs.Common.{◌||◌, ◌+◌, ◌++◌, [], drop, option_map, ◌≡◌, ℕ, List, length, refl, sym, ◌∙◌, ap, subst, Bool, true, false, Option, Some, None, Result, Ok, Err}
use Rattle.std.specs.Prelude.{IfErr, IfOk, IfSome, is_some, if◌then◌else◌}
use Rattle.std.specs.Borrow.{Bor}
use Rattle.std.specs.Str.{is_utf8}
use Rattle.outside_core.specs.Streams.{LosesPrefix}
use Rattle.std.proofs.lemmas.List.{drop-drop, drop_at}
use Rattle.vault_model.specs.Db.{NodeId, nil_id}
use Rattle.cli_profiles.specs.Profiles.{IsProfile}
use Rattle.cli_profiles.specs.declared.profiles.PasswordProfile.{PasswordProfile}
use Rattle.cli_lines.specs.CliNeeds.Needs.{generated_by, needs_of}
use Rattle.cli_lines.specs.CliNeeds.declared.command.Access.{Access}
use Rattle.vault_model.specs.Tree.{BareDoc, Tree}
use Rattle.tree_core.specs.After.{needs_bin}
use Rattle.tree_core.specs.NewNodes.{lent_value}
use Rattle.cli_messages.specs.declared.answers.Refusal.{Refusal}
use Rattle.cli_messages.specs.declared.answers.Stop.{Stop}
use Rattle.cli_messages.specs.declared.answers.Stop.TheVariants.{Refused, FileFault, InputFault, NoMemory}
use Rattle.cli_messages.specs.Phases.{IsLeft, IsPlainStop, IsStreamStop, RefusesAskedStream, RefusesStream, Returns, ReturnsAskedStream, StreamAnswer, TellsStream, after_left, then_left, with_left}
use Rattle.cli_changes.specs.Attachments.{attachment_bytes}
use Rattle.cli_changes.specs.Ids.{new_id}
use Rattle.cli_printing.proofs.CliWriting.Drawn.{next_first}
use Rattle.cli_lines.specs.Lines.{IsTextLine}
use Rattle.cli_lines.specs.CliNeeds.declared.command.Command.{Command}
use Rattle.cli_lines.specs.CliNeeds.declared.command.Command.TheVariants.{Ls, Show, History, Search, Add, Edit, Restore, ExportAttachment, ImportAttachment, RemoveAttachment, Move, Remove, MakeGroup, RemoveGroup, Merge, Import, Create, Export, EditFile, Info}
use Rattle.cli_commands.specs.declared.output.Change as declared
use Rattle.cli_commands.specs.Commands.{Change, Inputs, bin_id, change_by, change_of, change_with, drawn_id, draws_change, draws_id, exported_file, exported_so, password_of, some_password, listing_of, makes_node, may_write, merged_change, printed_text, with_password}
use Rattle.cli_printing.specs.Exporting.{exported}
use Rattle.cli_printing.specs.Info.{info_shown}
use Rattle.cli_printing.specs.Listing.{tree_listed}
use Rattle.cli_merging.proofs.DryRuns.{dry_none}
use Rattle.cli_merging.specs.Merging.{AfterMerge, after_merge}
use Rattle.cli_showing.specs.History.{history_shown}
use Rattle.cli_showing.specs.Showing.{code_shown, entries_shown, entry_shown}
use Rattle.cli_commands.specs.SeenChange.{IsDrawnBySome, change_seen}

-- A line that is lent.
pub lent_text : (lent : Option (Bor (List ℕ))) → IsTextLine (lent_value lent) → IfSome lent (λ line. is_utf8 line.now ≡ true)
lent_text None h = tt
lent_text (Some line) h = h

-- ---- a bin

needed_bin : (needed : Bool) (id : NodeId) → is_some (if needed then Some id else None) ≡ needed
needed_bin true id = refl
needed_bin false id = refl

-- A bin has an id exactly where it is needed.
pub bin_needed : (bin : Option NodeId) (id : NodeId) (doc : BareDoc) → bin ≡ bin_id id doc → is_some bin ≡ needs_bin doc
bin_needed bin id doc e = ap is_some e ∙ needed_bin (needs_bin doc) id

-- ---- what is drawn

pub loses_none : (before : Option (List ℕ)) → LosesPrefix before before
loses_none None = (0, refl)
loses_none (Some rest) = (0, refl)

pub loses_both : (old mid new : Option (List ℕ)) → LosesPrefix old mid → LosesPrefix mid new → LosesPrefix old new
loses_both None mid new h g = (0, g.1 ∙ ap (option_map (drop g.0)) h.1)
loses_both (Some x) mid new h g = (h.0 + g.0, g.1 ∙ ap (option_map (drop g.0)) h.1 ∙ ap Some (drop-drop g.0 h.0 x))

-- A command that makes a node draws an id.
makes_drawn : (command : Command) (doc : BareDoc) → draws_id command ≡ false → makes_node command doc ≡ false
makes_drawn (Ls access file group recursive flat ids) doc e = refl
makes_drawn (Show access file entry clear all attachments names totp at) doc e = refl
makes_drawn (History access file entry) doc e = refl
makes_drawn (Search access file term) doc e = refl
makes_drawn (Add access file entry asked) doc e = e
makes_drawn (Edit access file entry asked further) doc e = refl
makes_drawn (Restore access file entry version) doc e = refl
makes_drawn (ExportAttachment access file entry name to) doc e = refl
makes_drawn (ImportAttachment access file entry name source replaces) doc e = refl
makes_drawn (RemoveAttachment access file entry name) doc e = refl
makes_drawn (Move access file node group) doc e = refl
makes_drawn (Remove access file entry) doc e = cc
makes_drawn (MakeGroup access file group) doc e = e
makes_drawn (RemoveGroup access file group) doc e = cc
makes_drawn (Merge access file names from same dry details) doc e = refl
makes_drawn (Import access format source from file) doc e = refl
makes_drawn (Create access file name cipher kdf) doc e = e
makes_drawn (Export access format file) doc e = refl
makes_drawn (EditFile access file change) doc e = refl
makes_drawn (Info access file) doc e = refl

neither : (a b : Bool) → (a || b) ≡ false → (a ≡ false) × (b ≡ false)
neither false false e = (refl, refl)
neither false true e = cc
neither true b e = cc

pub none_made : (makes : Bool) (command : Command) (doc : BareDoc) → makes ≡ makes_node command doc → draws_change command ≡ false → makes ≡ false
none_made makes command doc e h = e ∙ makes_drawn command doc (neither (draws_id command) (is_some (generated_by command)) h).0

pub none_generated : (command : Command) → draws_change command ≡ false → is_some (generated_by command) ≡ false
none_generated command h = (neither (draws_id command) (is_some (generated_by command)) h).1

pub tells_made : (makes : Bool) (command : Command) (doc : BareDoc) (dice : Option (List ℕ)) (d : List ℕ) → makes ≡ makes_node command doc
    → TellsStream (draws_change command) dice d → TellsStream makes dice d
tells_made makes command doc (Some x) d e t = t
tells_made makes command doc None d e t = none_made makes command doc e t

-- What is left of dice after an id is drawn is asked for a password.
pub tells_generated : (command : Command) (before mid : Option (List ℕ)) (d left : List ℕ) → TellsStream (draws_change command) before d
    → IsLeft before mid left → TellsStream (is_some (generated_by command)) mid left
tells_generated command (Some x) mid d left t is = subst (λ (m : Option (List ℕ)). TellsStream (is_some (generated_by command)) m left) (sym is) refl
tells_generated command None mid d left t is = subst (λ (m : Option (List ℕ)). TellsStream (is_some (generated_by command)) m left) (sym is) (none_generated command t)

-- What is left after two draws.
left_after : (before mid now : Option (List ℕ)) (left rest : List ℕ) → IsLeft before mid left → IsLeft mid now rest → IsLeft before now rest
left_after (Some l) mid now left rest p q = q ∙ ap (option_map (λ (l : List ℕ). rest)) p
left_after None mid now left rest p q = q ∙ ap (option_map (λ (l : List ℕ). rest)) p

pub returns_with : (result : Result declared.Change Stop) (defined : Result Change Refusal) (new : BareDoc) (before now : Option (List ℕ)) (left : List ℕ)
    → IsLeft before now left → Returns (λ change. change_seen change new) result defined
    → ReturnsAskedStream (λ change. change_seen change new) result before now (with_left defined left)
returns_with (Ok change) defined new before now left l h = (h, l)
returns_with (Err (Refused refusal)) defined new before now left l h = (h, l)
returns_with (Err (FileFault name)) defined new before now left l h = tt
returns_with (Err InputFault) defined new before now left l h = tt
returns_with (Err NoMemory) defined new before now left l h = tt

-- Dice that nothing is asked of are as they were.
pub left_alone : (asked : Bool) (before : Option (List ℕ)) (d : List ℕ) → TellsStream asked before d → IsLeft before before d
left_alone asked (Some left) d t = ap Some t
left_alone asked None d t = refl

later : (result : Result declared.Change Stop) (new : BareDoc) (before mid now : Option (List ℕ)) (left : List ℕ) (taken : StreamAnswer Change)
    → IsLeft before mid left → ReturnsAskedStream (λ change. change_seen change new) result mid now taken
    → ReturnsAskedStream (λ change. change_seen change new) result before now taken
later (Ok change) new before mid now left taken l h = (h.0, left_after before mid now left taken.left l h.1)
later (Err (Refused refusal)) new before mid now left taken l h = (h.0, left_after before mid now left taken.left l h.1)
later (Err (FileFault name)) new before mid now left taken l h = tt
later (Err InputFault) new before mid now left taken l h = tt
later (Err NoMemory) new before mid now left taken l h = tt

-- What a command gives after an id was drawn.
pub returns_drawn : (result : Result declared.Change Stop) (next : NodeId → List ℕ → StreamAnswer Change) (taken : StreamAnswer NodeId) (id : NodeId) (new : BareDoc)
    (before mid now : Option (List ℕ)) → taken.answer ≡ Ok id → IsLeft before mid taken.left
    → ReturnsAskedStream (λ change. change_seen change new) result mid now (next id taken.left)
    → ReturnsAskedStream (λ change. change_seen change new) result before now (then_left taken next)
returns_drawn result next taken id new before mid now e l h =
    subst (λ (a : StreamAnswer Change). ReturnsAskedStream (λ change. change_seen change new) result before now a)
    (sym (ap (λ (a : Result NodeId Refusal). after_left a taken.left next) e))
    (later result new before mid now taken.left (next id taken.left) l h)

-- It does over some dice.
pub some_drawn : (result : Result declared.Change Stop) (next : NodeId → List ℕ → StreamAnswer Change) (makes : Bool) (id : NodeId) (new : BareDoc)
    → IsDrawnBySome makes id → IfOk result (λ change. (d : List ℕ) × ((next id d).answer ≡ Ok (change_seen change new)))
    → IfOk result (λ change. (d : List ℕ) × ((then_left (drawn_id makes d) next).answer ≡ Ok (change_seen change new)))
some_drawn (Ok change) next makes id new some h =
    (some.bytes ++ h.0, ap (λ (a : StreamAnswer NodeId). (then_left a next).answer) (some.draws h.0) ∙ h.1)
some_drawn (Err stop) next makes id new some h = tt

-- ---- a password

-- A command gave this with a password that was generated.
pub returns_generated : (result : Result declared.Change Stop) (F : Option (List ℕ) → Result Change Refusal) (taken : StreamAnswer (List ℕ)) (password : List ℕ) (new : BareDoc)
    (before now : Option (List ℕ)) → taken.answer ≡ Ok password → IsLeft before now taken.left → Returns (λ change. change_seen change new) result (F (Some password))
    → ReturnsAskedStream (λ change. change_seen change new) result before now (then_left (some_password taken) (λ password left. with_left (F password) left))
returns_generated result F taken password new before now e l h =
    subst (λ (a : Result (List ℕ) Refusal). ReturnsAskedStream (λ change. change_seen change new) result before now
    (then_left (some_password (with_left a taken.left)) (λ password left. with_left (F password) left))) (sym e)
    (returns_with result (F (Some password)) new before now taken.left l h)

pub some_generated : (result : Result declared.Change Stop) (F : Option (List ℕ) → Result Change Refusal) (take : List ℕ → StreamAnswer (List ℕ)) (password : List ℕ) (new : BareDoc)
    → ((d : List ℕ) × ((take d).answer ≡ Ok password)) → Returns (λ change. change_seen change new) result (F (Some password))
    → IfOk result (λ change. (d : List ℕ) × ((then_left (some_password (take d)) (λ password left. with_left (F password) left)).answer ≡ Ok (change_seen change new)))
some_generated (Ok change) F take password new some h = (
  some.0,
  ap (λ (a : Result (List ℕ) Refusal). (then_left (some_password (with_left a (take some.0).left)) (λ password left. with_left (F password) left)).answer) some.1 ∙ h,
)
some_generated (Err stop) F take password new some h = tt

pub some_plain : (result : Result declared.Change Stop) (defined : Result Change Refusal) (new : BareDoc)
    → Returns (λ change. change_seen change new) result defined
    → IfOk result (λ change. (d : List ℕ) × ((with_left defined d).answer ≡ Ok (change_seen change new)))
some_plain (Ok change) defined new h = ([], h)
some_plain (Err stop) defined new h = tt

-- Dice of which a password is asked report what is left.
pub told_generated : (asked : Bool) (before : Option (List ℕ)) (d : List ℕ) → asked ≡ true → TellsStream asked before d → before ≡ Some d
told_generated asked (Some left) d e t = ap Some t
told_generated asked None d e t = let same : true ≡ false = sym e ∙ t in cc

pub left_so : (before now : Option (List ℕ)) (d left : List ℕ) → before ≡ Some d → now ≡ Some left → IsLeft before now left
left_so before now d left e h = h ∙ sym (ap (option_map (λ (l : List ℕ). left)) e)

-- The dice were refused.
pub password_stops : (stop : Stop) (before now : Option (List ℕ)) (d : List ℕ) (taken : StreamAnswer (List ℕ)) (next : Option (List ℕ) → List ℕ → StreamAnswer Change)
    → before ≡ Some d → RefusesStream stop now taken → RefusesAskedStream stop before now (then_left (some_password taken) next)
password_stops (Refused refusal) before now d taken next e h =
    subst (λ (a : Result (List ℕ) Refusal). RefusesAskedStream (Refused refusal) before now (then_left (some_password (with_left a taken.left)) next)) (sym h.0)
    (refl, left_so before now d taken.left e h.1)
password_stops (FileFault name) before now d taken next e h = tt
password_stops InputFault before now d taken next e h = tt
password_stops NoMemory before now d taken next e h = tt

-- A profile that is there.
pub profile_fits : (profile : Option PasswordProfile) (given : PasswordProfile) → profile ≡ Some given → IfSome profile IsProfile → IsProfile given
profile_fits profile given e h = subst (λ (p : Option PasswordProfile). IfSome p IsProfile) e h

-- ---- causes

pub stream_stop : (result : Result declared.Change Stop) (faults faults' : ℕ) → IfErr result IsPlainStop → IfErr result (IsStreamStop faults faults')
stream_stop (Ok change) faults faults' h = tt
stream_stop (Err (Refused refusal)) faults faults' h = h
stream_stop (Err (FileFault name)) faults faults' h = absurd h
stream_stop (Err InputFault) faults faults' h = absurd h
stream_stop (Err NoMemory) faults faults' h = tt

-- Bytes that were drawn make the id that is drawn of themselves, and what is after them is left.
pub id_drawn : (is_made : Bool) (drawn id : List ℕ) → is_made ≡ true → length drawn ≡ 16 → id ≡ new_id drawn → IsDrawnBySome is_made id
id_drawn true drawn id m l e = record {
  bytes = drawn;
  draws = λ rest.
      ap (λ (b : List ℕ). with_left {A = NodeId} (Ok (new_id b)) (drop 16 (drawn ++ rest))) (next_first 16 drawn rest l)
      ∙ ap (λ (i : NodeId). with_left {A = NodeId} (Ok i) (drop 16 (drawn ++ rest))) (sym e)
      ∙ ap (λ (left : List ℕ). with_left {A = NodeId} (Ok id) left) (drop_at drawn rest 16 l);
}
id_drawn false drawn id m l e = cc

pub none_drawn : (is_made : Bool) → is_made ≡ false → IsDrawnBySome is_made nil_id
none_drawn false e = record { bytes = []; draws = λ rest. refl }
none_drawn true e = cc

-- ---- what writes nothing

listed_none : (file : List ℕ) (recursive flat ids : Bool) (tree : Option Tree) → IfOk (listing_of file recursive flat ids tree) (λ change. change.doc ≡ None)
listed_none file recursive flat ids None = tt
listed_none file recursive flat ids (Some tree) = refl

printed_none : (text : Result (List ℕ) Refusal) → IfOk (printed_text text) (λ change. change.doc ≡ None)
printed_none (Ok text) = refl
printed_none (Err refusal) = tt

taken_none : (quiet : Bool) (path name to : List ℕ) (bytes : Result (List ℕ) Refusal) → IfOk (exported_file quiet path name to bytes) (λ change. change.doc ≡ None)
taken_none quiet path name to (Ok bytes) = refl
taken_none quiet path name to (Err refusal) = tt

exported_none : (quiet : Bool) (path name : List ℕ) (to : Option (List ℕ)) (bytes : Result (List ℕ) Refusal)
    → IfOk (exported_so quiet path name to bytes) (λ change. change.doc ≡ None)
exported_none quiet path name None bytes = printed_none bytes
exported_none quiet path name (Some to) bytes = taken_none quiet path name to bytes

merged_none : (made : Result AfterMerge Refusal) → IfOk made (λ after. after.doc ≡ None) → IfOk (merged_change made) (λ change. change.doc ≡ None)
merged_none (Ok after) h = h
merged_none (Err refusal) h = tt

-- A command that may write nothing makes no document.
none_with : (time : ℕ) (command : Command) (input : Inputs) (id : NodeId) (doc : BareDoc)
    → may_write command ≡ false → IfOk (change_with time command input id doc) (λ change. change.doc ≡ None)
none_with time (Ls access file group recursive flat ids) input id doc e = listed_none file recursive flat ids (tree_listed group doc)
none_with time (Show access file entry clear all attachments names totp at) input id doc e =
    printed_none (if totp then code_shown file names at entry time doc else entry_shown file clear all attachments names at entry doc)
none_with time (History access file entry) input id doc e = printed_none (history_shown file entry doc)
none_with time (Search access file term) input id doc e = printed_none (entries_shown file term doc)
none_with time (Add access file entry asked) input id doc e = cc
none_with time (Edit access file entry asked further) input id doc e = cc
none_with time (Restore access file entry version) input id doc e = cc
none_with time (ExportAttachment access file entry name to) input id doc e =
    exported_none access.quiet entry name to (attachment_bytes file entry name doc)
none_with time (ImportAttachment access file entry name source replaces) input id doc e = cc
none_with time (RemoveAttachment access file entry name) input id doc e = cc
none_with time (Move access file node group) input id doc e = cc
none_with time (Remove access file entry) input id doc e = cc
none_with time (MakeGroup access file group) input id doc e = cc
none_with time (RemoveGroup access file group) input id doc e = cc
none_with time (Merge access file names from same false details) input id doc e = cc
none_with time (Merge access file names from same true details) input id doc e =
    merged_none (after_merge file access.quiet true details names doc input.sources) (dry_none file access.quiet details names doc input.sources)
none_with time (Import access format source from file) input id doc e = cc
none_with time (Create access file name cipher kdf) input id doc e = cc
none_with time (Export access format file) input id doc e = printed_none (exported file format doc)
none_with time (EditFile access file change) input id doc e = cc
none_with time (Info access file) input id doc e = printed_none (Ok (info_shown input.settings doc))

none_after : {A : Type 0} (next : A → List ℕ → StreamAnswer Change) → ((a : A) (left : List ℕ) → IfOk (next a left).answer (λ change. change.doc ≡ None))
    → (answer : Result A Refusal) (left : List ℕ) → IfOk (after_left answer left next).answer (λ change. change.doc ≡ None)
none_after next none (Ok a) left = none a left
none_after next none (Err refusal) left = tt

pub none_changed : (time : ℕ) (command : Command) (input : Inputs) (doc : BareDoc) (dice : List ℕ)
    → may_write command ≡ false → IfOk (change_of time command input doc dice).answer (λ change. change.doc ≡ None)
none_changed time command input doc dice e =
    none_after (λ id. change_by time command input id doc)
    (λ id left.
    let password = password_of (generated_by command) input.line left in
    none_after (λ p rest. with_left (change_with time command (with_password p input) id doc) rest)
    (λ p rest. none_with time command (with_password p input) id doc e) password.answer password.left)
    (drawn_id (makes_node command doc) dice).answer (drawn_id (makes_node command doc) dice).left

-- ---- an attachment that is taken out

module _ {X : Type 0} (seen : X → Change) (r : Result X Stop) (time : ℕ) (command : Command) (access : Access) (file entry name : List ℕ) (to : Option (List ℕ))
    (input : Inputs) (id : NodeId) (d : BareDoc) (is : command ≡ ExportAttachment access file entry name to) where
  -- What such a command makes of its document.
  makes_so : change_with time command input id d ≡ exported_so access.quiet entry name to (attachment_bytes file entry name d)
  makes_so = ap (λ (k : Command). change_with time k input id d) is

  file_is : (f : List ℕ) → f ≡ (needs_of command).file → f ≡ file
  file_is f e = e ∙ ap (λ (k : Command). (needs_of k).file) is

  quiet_is : (q : Bool) → q ≡ (needs_of command).access.quiet → q ≡ access.quiet
  quiet_is q e = e ∙ ap (λ (k : Command). (needs_of k).access.quiet) is

  -- It makes a new file, whose report names what the command names.
  pub exported_given : (goal : List ℕ) (q : Bool) (f e n e' n' t : List ℕ) → to ≡ Some goal → q ≡ (needs_of command).access.quiet → f ≡ (needs_of command).file
      → e ≡ entry → n ≡ name → e' ≡ entry → n' ≡ name → t ≡ goal → Returns seen r (exported_file q e' n' t (attachment_bytes f e n d))
      → Returns seen r (change_with time command input id d)
  exported_given goal q f e n e' n' t some isq isf ise isn ise' isn' ist h =
      subst (λ (made : Result Change Refusal). Returns seen r made)
      ((λ i. exported_file (quiet_is q isq i) (ise' i) (isn' i) (ist i) (attachment_bytes (file_is f isf i) (ise i) (isn i) d))
      ∙ sym (makes_so ∙ ap (λ (o : Option (List ℕ)). exported_so access.quiet entry name o (attachment_bytes file entry name d)) some)) h

  -- It prints the attachment.
  pub printed_given : (f e n : List ℕ) → to ≡ None → f ≡ (needs_of command).file → e ≡ entry → n ≡ name → Returns seen r (printed_text (attachment_bytes f e n d))
      → Returns seen r (change_with time command input id d)
  printed_given f e n none isf ise isn h =
      subst (λ (made : Result Change Refusal). Returns seen r made)
      ((λ i. printed_text (attachment_bytes (file_is f isf i) (ise i) (isn i) d))
      ∙ sym (makes_so ∙ ap (λ (o : Option (List ℕ)). exported_so access.quiet entry name o (attachment_bytes file entry name d)) none)) h
