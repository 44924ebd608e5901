use Rattle.std.proofs.Common.{◌≡◌, ◌+◌, ◌++◌, ◌∷◌, [], List, ℕ, Bool, cond, codes, drop, append_assoc, append-nil, ap, sym, ◌∙◌}
use Rattle.std.proofs.lemmas.List.{drop_more}
use Rattle.std.specs.Prelude.{map}
use Rattle.vault_model.specs.SeenNodes.{tree_seen}
use Rattle.vault_model.specs.Db.{NodeId}
use Rattle.vault_model.specs.Tree.{all_trees, id_of}
use Rattle.vault_model.specs.Walk.{name_of}
use Rattle.vault_model.specs.declared.nodes.Group.{Group, out-Group}
use Rattle.vault_model.proofs.SeenGroups.{seen_group}
use Rattle.cli_printing.specs.Listing.{front_below, group_lines, name_lines, name_listed}
use Rattle.cli_printing.proofs.listing.+add_group.Goals as goal
use Rattle.cli_printing.proofs.listing.+add_group.Goals.{then-manner+in_ok-below+in_ok-added, else-manner}

-- a line, and the lines below it where they are listed
with_later : (t t3 text line below later : List ℕ) → t3 ≡ t ++ line → text ≡ t3 ++ below → text ++ later ≡ t ++ ((line ++ below) ++ later)
with_later t t3 text line below later e3 e =
    ap (λ (x : List ℕ). x ++ later) (e ∙ ap (λ (x : List ℕ). x ++ below) e3 ∙ append_assoc t line below) ∙ append_assoc t (line ++ below) later

-- the line of a listed name that has a slash
abbrev line_of : List ℕ → List ℕ → List ℕ
line_of front name = (front ++ name) ++ codes "/\n"

-- the line of a group, of which the id and the name are seen
listed_child : (g : Group) (ids : Bool) (front name text named : List ℕ) → name ≡ name_of (tree_seen g)
    → named ≡ text ++ ((front ++ name_listed ids (out-Group g).id name) ++ codes "/\n")
    → named ≡ text ++ line_of front (name_listed ids (id_of (tree_seen g)) (name_of (tree_seen g)))
listed_child g ids front name text named same listed =
    listed
    ∙ ap (λ (u : NodeId). text ++ line_of front (name_listed ids u name)) (sym (ap id_of (seen_group g)))
    ∙ ap (λ (n : List ℕ). text ++ line_of front (name_listed ids (id_of (tree_seen g)) n)) same

pub loop-child-preserved : goal.loop-child-preserved
loop-child-preserved n c =
    let recursive = c.args.manner.recursive in
    let flat = c.args.manner.flat in
    let ids = c.args.manner.ids in
    let front = c.args.front.now in
    let groups = c.as_slice-child-items.result.now in
    let at = c.loop-child.child-index in
    let child = c.child-item.result in
    let tree = tree_seen child in
    let so_far = c.loop-child.text in
    let named = c.add_listed.new.text in
    let later = name_lines recursive flat ids front (all_trees (map tree_seen (drop (at + 1) groups))) in
    let opened : drop at groups ≡ child ∷ drop (at + 1) groups =
    drop_more groups at child c.loop-child-test.true ∙ ap (λ (g : Group). g ∷ drop (at + 1) groups) (sym c.child-item.is) in
    let name : c.as_bytes-name.result.now ≡ name_of tree = c.as_bytes-name.ensures.value ∙ c.as_str.ensures ∙ sym (ap name_of (seen_group child)) in
    let line : named ≡ so_far ++ line_of front (name_listed ids (id_of tree) (name_of tree)) =
    listed_child child ids front c.as_bytes-name.result.now so_far named name c.in_ok-add_listed.ensures in
    let lines_below = group_lines recursive flat ids (front_below flat front (name_of tree)) tree in
    let below : c.if-manner.text ≡ named ++ cond recursive lines_below [] =
    elim c.if-manner.branch [
      | then-manner+in_ok-below+in_ok-added w ↦
          w.text-is ∙ w.in_ok-added.ensures
          ∙ ap (λ (f : List ℕ). named ++ group_lines recursive flat ids f tree) (w.as_slice-then-manner.ensures ∙ w.in_ok-below.ensures ∙ ap (front_below flat front) name)
          ∙ ap (λ (b : Bool). named ++ cond b lines_below []) (sym w.if-manner.true)
      | else-manner w ↦ w.text-is ∙ sym (append-nil named) ∙ ap (λ (b : Bool). named ++ cond b lines_below []) (sym w.if-manner.false)
    ] in
    with_later so_far named c.if-manner.text (line_of front (name_listed ids (id_of tree) (name_of tree))) (cond recursive lines_below []) later line below
    ∙ ap (λ (gs : List Group). so_far ++ name_lines recursive flat ids front (all_trees (map tree_seen gs))) (sym opened)
    ∙ c.loop-child.invariant
