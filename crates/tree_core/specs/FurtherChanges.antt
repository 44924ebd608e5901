-- What an edit changes of an entry beside the values that it is given: fields of one's own, tags and
-- when it expires.
use Rattle.std.specs.Prelude.{ℕ, ◌+◌, Bool, true, false, ◌||◌, if◌then◌else◌, is_some, find, List, [], ◌∷◌, map, zip, Option, None, Some, Result, Ok, Err}
use Rattle.std.specs.Str.{bytes_eq}
use Rattle.vault_model.specs.Bare.{BareContent, BareField}
use Rattle.vault_model.specs.Orders.{bytes_cmp}
use Rattle.tree_core.specs.declared.fails.TreeFail.{TreeFail}
use Rattle.tree_core.specs.declared.fails.TreeFail.TheVariants.{NoField}
use Rattle.tree_core.specs.declared.values.Expiry.{Expiry}
use Rattle.tree_core.specs.declared.values.Expiry.TheVariants.{At, Never}
use Rattle.tree_core.specs.declared.values.FurtherChange as declared
use Rattle.tree_core.specs.InOrder.{put_in_order}
use Rattle.tree_core.specs.NewNodes.{field, without_field}
use Rattle.tree_core.specs.Tags.{changed_tags}

-- A change of an entry beside the values that it is given: the fields that get a value, each with
-- its name, in their order, and whether they are hidden from now on; the names of the fields that
-- are taken away; the tags that are put to the others and those that are taken away; and when it
-- expires, where that changes.
pub record FurtherChange : Type 0 where
  pub set : List (List ℕ × List ℕ)
  pub protect : Bool
  pub unset : List (List ℕ)
  pub tags : List (List ℕ)
  pub untags : List (List ℕ)
  pub expiry : Option Expiry

-- the change that a call is given
abbrev pub further_seen : declared.FurtherChange → FurtherChange
further_seen change = record {
  set = zip change.names.now (map (λ value. value.bytes) change.values.now);
  protect = change.protect;
  unset = change.unset.now;
  tags = change.tags.now;
  untags = change.untags.now;
  expiry = change.expiry;
}

-- no change
abbrev pub no_further_change : FurtherChange
no_further_change = record {
  set = [];
  protect = false;
  unset = [];
  tags = [];
  untags = [];
  expiry = None;
}

-- ---- fields

-- fields with a value of this name; one that was there is hidden as it was, or from now on, and one
-- that was not is put in its place by rising name
abbrev pub with_own_value : Bool → List ℕ × List ℕ → List BareField → List BareField
with_own_value protect own = put_in_order (λ (f : BareField). bytes_cmp own.0 f.key)
    (field own.0 own.1 protect)
    (λ (f : BareField). record f { value = own.1; hidden = f.hidden || protect })

-- fields with values of these names, one after another
abbrev pub with_own_values : Bool → List (List ℕ × List ℕ) → List BareField → List BareField
with_own_values protect [] fields = fields
with_own_values protect (own ∷ more) fields =
    with_own_values protect more (with_own_value protect own fields)

-- fields without those of these names
abbrev pub without_fields : List (List ℕ) → List BareField → List BareField
without_fields [] fields = fields
without_fields (name ∷ names) fields = without_fields names (without_field name fields)

-- a field of this name is there
abbrev pub has_field : List ℕ → List BareField → Bool
has_field name fields = is_some (find (λ (f : BareField). bytes_eq name f.key) fields)

-- each of these names is that of a field, or the place of the first that is not, counted from this
-- number
abbrev pub missing_from : ℕ → List (List ℕ) → List BareField → Result (Unit {0}) TreeFail
missing_from place [] fields = Ok tt
missing_from place (name ∷ names) fields =
    if has_field name fields then missing_from (place + 1) names fields else Err (NoField place)

-- ---- all of it

-- a version whose fields are to be taken away has them
abbrev pub has_unset : FurtherChange → BareContent → Result (Unit {0}) TreeFail
has_unset change content = missing_from 0 change.unset content.fields

-- what an entry says that expires so from now on
abbrev pub with_expiry : Option Expiry → BareContent → BareContent
with_expiry None content = content
with_expiry (Some Never) content = record content { expires = false }
with_expiry (Some (At time)) content = record content { expires = true; expiry = time }

-- what an entry says after a change
abbrev pub further_changed : FurtherChange → BareContent → BareContent
further_changed change content = with_expiry change.expiry (record content {
  fields = without_fields change.unset (with_own_values change.protect change.set content.fields);
  tags = changed_tags change.tags change.untags content.tags;
})
