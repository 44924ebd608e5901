use Rattle.std.proofs.Common.{◌≡◌, ◌++◌, drop, map, true}
use Rattle.bitwarden_items.specs.Proper.{are_proper}
use Rattle.bitwarden_items.specs.Seen.{passwords_seen}
use Rattle.bitwarden_items.specs.Versions.{earlier_version}
use Rattle.serde_json.specs.View.{view}
use Rattle.vault_model.specs.SeenNodes.{bare_version}
use Rattle.bitwarden_items.proofs.versions.add_versions.Given as goal

-- the versions so far, with those that are left, are all
abbrev pub invariant-loop-at : goal.invariant-loop-at
invariant-loop-at l = record {
  is : map bare_version l.initial.history ++ map (earlier_version l.fn.now (view l.fn.item)) (passwords_seen l.fn.earlier)
      ≡ map bare_version l.history ++ map (earlier_version l.fn.now (view l.fn.item)) (passwords_seen (drop l.at l.fn.earlier));
  proper : are_proper (map bare_version l.initial.history) ≡ true → are_proper (map bare_version l.history) ≡ true;
}
