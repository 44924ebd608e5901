-- References in a small document: the entry Bank, whose title is a reference to itself, and the entry Mail.
use Rattle.std.proofs.Common.{◌≡◌, ℕ, true, false, List, [], ◌∷◌, None, Ok, Err, refl}
use Rattle.std.specs.Prelude.{codes, replicate}
use Rattle.uuid.specs.Text.{by_index}
use Rattle.vault_model.specs.Bare.{BareField}
use Rattle.vault_model.specs.Db.{NodeId}
use Rattle.vault_model.specs.Empty.{empty_bare, new_group}
use Rattle.vault_model.specs.Shape.{EntryRecord}
use Rattle.vault_model.specs.Tree.{BareDoc, node, none}
use Rattle.find_references.specs.declared.fail.FindFail.TheVariants.{TooMuch}
use Rattle.find_references.specs.References.{reference_at}
use Rattle.find_references.specs.Resolved.{after_step, resolved, sought}

abbrev id : ℕ → NodeId
id n = replicate 16 n

abbrev field : List ℕ → List ℕ → BareField
field key value = record { key = key; value = value; hidden = false }

-- An entry of these fields.
abbrev entry : List BareField → EntryRecord
entry fields = record {
  placed = 0;
  previous = id 0;
  current = record {
    mark = record {
      modified = 0;
      content = record {
        created = 0;
        expiry = 0;
        expires = false;
        icon = 0;
        custom_icon = None;
        fields = fields;
        attachments = [];
        tags = [];
        fore = [];
        back = [];
        url_override = [];
        auto_type = record { enabled = true; obfuscation = 0; sequence = []; pairs = [] };
        items = [];
        quality = true;
      };
    };
    stats = record { accessed = 0; usage = 0 };
  };
  history = [];
}

abbrev own_title : List ℕ
own_title = codes "{REF:T@I:02020202020202020202020202020202}"

abbrev doc : BareDoc
doc = record (empty_bare (id 1) 0) {
  tree = node (id 1) (new_group (codes "Root") 0)
      ((id 2, entry (field (codes "Title") own_title ∷ []))
      ∷ (
        id 171,
        entry (field (codes "Password") (codes "s3") ∷ field (codes "Pin") (codes "77")
            ∷ field (codes "Title") (codes "Mail") ∷ field (codes "UserName") (codes "me:{REF:P@T:Mail}") ∷ []),
      )
      ∷ [])
      none;
}

-- A reference to itself is replaced ten times, and stays then.
own_reference : resolved doc own_title ≡ Ok own_title
unfolding resolved reference_at by_index
own_reference = refl

-- Letters are in any case, and what takes the place of a reference is resolved.
through_another : resolved doc (codes "a{ref:u@t:Mail}b") ≡ Ok (codes "ame:s3b")
unfolding resolved reference_at by_index
through_another = refl

-- A field of any other key is sought by its value, and an id is given in upper case.
by_other_field : resolved doc (codes "{REF:I@O:77}") ≡ Ok (codes "ABABABABABABABABABABABABABABABAB")
unfolding resolved reference_at by_index
by_other_field = refl

-- An id is sought in any case of its letters.
by_id : resolved doc (codes "{REF:P@I:abABabababababababababababababab}") ≡ Ok (codes "s3")
unfolding resolved reference_at by_index
by_id = refl

-- References to no entry stand, and so does what is no reference.
left : resolved doc (codes "{REF:P@T:mail}{REF:O@T:Mail}{REF:P@T:}{REF:P@T:Mail") ≡ Ok (codes "{REF:P@T:mail}{REF:O@T:Mail}{REF:P@T:}{REF:P@T:Mail")
unfolding resolved reference_at by_index
left = refl

-- The last reference that is looked for, and the first that is too many.
last_reference : after_step (record { references = 65535; text = [] }) sought ≡ Ok (record { references = 65536; text = [] })
last_reference = refl

one_reference_more : after_step (record { references = 65536; text = [] }) sought ≡ Err (TooMuch 65537)
one_reference_more = refl
