use Rattle.std.proofs.Common.{sym, ap, ◌∙◌}
use Rattle.std.specs.List.{position}
use Rattle.std.specs.Option.{option_copied_mut}
use Rattle.std.specs.Prelude.{map}
use Rattle.vault_model.specs.Join.{is_id}
use Rattle.vault_model.specs.SeenNodes.{bare_version, entry_record}
use Rattle.vault_model.specs.Shape.{EntryRecord}
use Rattle.vault_model.specs.declared.nodes.Entry.{Entry}
use Rattle.tree_steps.proofs.InPlace.{place_there}
use Rattle.tree_steps.proofs.ChangedEntries.{changes_none, changes_place}
use Rattle.tree_steps.proofs.entries.exchange_first.Goals as goal

pub returns-in_default : goal.returns-in_default
returns-in_default c =
    let way = ap (position (λ (e : Entry). is_id e.id c.args.id)) (sym c.as_slice.ensures) ∙ sym c.place_in.ensures ∙ c.in-Some.is in
    place_there c.args.id c.args.entries.now c.in-Some.at way (sym c.get_mut.ensures.item ∙ ap option_copied_mut c.in_default.is)

pub returns-in-Some-get_mut : goal.returns-in-Some-get_mut
returns-in-Some-get_mut c =
    let way = ap (position (λ (e : Entry). is_id e.id c.args.id)) (sym c.as_slice.ensures) ∙ sym c.place_in.ensures ∙ c.in-Some.is in
    changes_place c.args.id (λ (e : EntryRecord). record e { current = bare_version c.args.current.now; history = map bare_version c.args.history.now }) c.args.entries.now c.in-Some.at
    c.in-Some-get_mut.entry.now c.exchange.new.entry way
    (sym c.get_mut.ensures.item ∙ ap option_copied_mut c.in-Some-get_mut.is) (ap (λ (x : Entry). x.id) c.exchange.ensures) (ap entry_record c.exchange.ensures)

pub returns-in-None : goal.returns-in-None
returns-in-None c =
    let way = ap (position (λ (e : Entry). is_id e.id c.args.id)) (sym c.as_slice.ensures) ∙ sym c.place_in.ensures ∙ c.in-None.is in
    changes_none c.args.id (λ (e : EntryRecord). record e { current = bare_version c.args.current.now; history = map bare_version c.args.history.now }) c.args.entries.now way
