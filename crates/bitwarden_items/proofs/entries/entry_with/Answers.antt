use Rattle.std.proofs.Common.{◌≡◌, ℕ, ◌+◌, List, ◌∷◌, Result, Ok, map, rules, sym, ap, ◌∙◌}
use Rattle.std.specs.Prelude.{codes}
use Rattle.bitwarden_fields.specs.BitwardenForms.declared.fails.BitwardenFail.{BitwardenFail}
use Rattle.bitwarden_items.specs.Passwords.{EarlierPassword, date_or}
use Rattle.bitwarden_items.specs.Seen.{passwords_seen}
use Rattle.bitwarden_items.specs.Versions.{entry_modified, in_time, modified_at}
use Rattle.outside_core.specs.Results.{◌>>=◌}
use Rattle.serde_json.specs.View.{view}
use Rattle.vault_model.specs.Db.{NodeId, greatest}
use Rattle.vault_model.specs.Shape.{EntryRecord}
use Rattle.bitwarden_items.proofs.entries.entry_with.Goals as goal

pub returns-in-Ok-clause-is : goal.returns-in-Ok-clause-is
returns-in-Ok-clause-is c =
    let now = c.args.now in
    let item = view c.args.item.now in
    let next = λ (m : ℕ). let row : Result (NodeId × EntryRecord) BitwardenFail = Ok (c.args.id, entry_modified now item m) in row in
    let latest : c.latest_of.result ≡ modified_at now item =
    c.latest_of.ensures
    ∙ ap (λ (n : ℕ). greatest (n ∷ map (λ (p : EarlierPassword). p.date + 1) (passwords_seen c.args.earlier.now))) (c.seconds-revised.ensures.value ∙ c.date_or.ensures)
    ∙ ap (λ (ps : List EarlierPassword). greatest (date_or now (codes "revisionDate") item ∷ map (λ (p : EarlierPassword). p.date + 1) ps)) c.requires in
    let timed : in_time c.latest_of.result ≡ Ok c.in_ok-modified.modified = search rules in
    ap (λ (t : ℕ). in_time t >>= next) (sym latest)
    ∙ ap (λ (r : Result ℕ BitwardenFail). r >>= next) timed
    ∙ ap (λ (row : NodeId × EntryRecord). let made : Result (NodeId × EntryRecord) BitwardenFail = Ok row in made) (sym c.in-Ok.ensures.is)
