use Rattle.std.proofs.Common.{List, sym, ap, ◌∙◌}
use Rattle.std.specs.List.{insert}
use Rattle.bitwarden_items.proofs.Places.{seen_inserted}
use Rattle.bitwarden_items.specs.Passwords.{put_password}
use Rattle.bitwarden_items.specs.Seen.{password_seen, passwords_seen}
use Rattle.bitwarden_items.specs.declared.passwords.EarlierPassword as memory
use Rattle.bitwarden_items.proofs.passwords.put_password.Goals as goal

pub returns-in_ok-insert-in-Some : goal.returns-in_ok-insert-in-Some
returns-in_ok-insert-in-Some c =
    let p = c.args.p in
    let at = c.in-Some.at in
    let slice = c.as_slice.ensures.value in
    ap passwords_seen c.in_ok-insert-in-Some.ensures.items
    ∙ seen_inserted c.args.rising.now.items at p
    ∙ ap (λ (ps : List memory.EarlierPassword). insert (passwords_seen ps) at (password_seen p)) (sym slice)
    ∙ sym c.in-Some.ensures.1
    ∙ ap (λ (ps : List memory.EarlierPassword). put_password (password_seen p) (passwords_seen ps)) slice
