-- The orders of what a vault holds: field by field in the order in which the fields are listed,
-- texts and bytes by their bytes, lists as dictionaries order words.
use Rattle.std.specs.Prelude.{ℕ, List}
use Rattle.std.specs.declared.cmp.Ordering.{Ordering}
use Rattle.std.specs.Ordering.{nat_cmp, int_cmp, bool_cmp, on, ordering_then}
use Rattle.std.specs.Cmp.Lexicographic.{slice_cmp}
use Rattle.std.specs.Option.{option_cmp}
use Rattle.vault_model.specs.declared.contents.Association.{Association}
use Rattle.vault_model.specs.declared.contents.AutoType.{AutoType}
use Rattle.vault_model.specs.declared.contents.GroupContent.{GroupContent}
use Rattle.vault_model.specs.declared.contents.Item.{Item}
use Rattle.vault_model.specs.declared.contents.Tri.{Tri}
use Rattle.vault_model.specs.declared.contents.Tri.TheVariants.{Inherit, No, Yes}
use Rattle.vault_model.specs.declared.metas.Bin.{Bin}
use Rattle.vault_model.specs.declared.metas.Icon.{Icon}
use Rattle.vault_model.specs.declared.metas.MetaSettings.{MetaSettings}
use Rattle.vault_model.specs.declared.metas.Protection.{Protection}
use Rattle.vault_model.specs.Bare.{BareAttachment, BareContent, BareField}

-- pairs by their first parts and then by their second
abbrev pub pair_cmp : {A B : Type 0} → (A → A → Ordering) → (B → B → Ordering) → A × B → A × B
    → Ordering
pair_cmp R S x y = ordering_then (R x.0 y.0) (S x.1 y.1)

-- texts, ids and other bytes, by their bytes
abbrev pub bytes_cmp : List ℕ → List ℕ → Ordering
bytes_cmp = slice_cmp nat_cmp

-- a choice left to the parent is below no, and no is below yes
abbrev pub tri_rank : Tri → ℕ
tri_rank Inherit = 0
tri_rank No = 1
tri_rank Yes = 2

-- choices by their rank
abbrev pub tri_cmp : Tri → Tri → Ordering
tri_cmp = on tri_rank nat_cmp

-- fields by key, value and whether they are hidden
unfoldable pub field_cmp : BareField → BareField → Ordering
field_cmp = on (λ f. (f.key, (f.value, f.hidden)))
    (pair_cmp bytes_cmp (pair_cmp bytes_cmp bool_cmp))

-- attachments by name, bytes and whether they are hidden
unfoldable pub attachment_cmp : BareAttachment → BareAttachment → Ordering
attachment_cmp = on (λ a. (a.name, (a.bytes, a.hidden)))
    (pair_cmp bytes_cmp (pair_cmp bytes_cmp bool_cmp))

-- custom items within a content
unfoldable pub item_cmp : Item → Item → Ordering
item_cmp = on (λ i. (i.key, (i.value, i.changed))) (pair_cmp bytes_cmp (pair_cmp bytes_cmp nat_cmp))

-- pairs of a window and its key strokes
unfoldable pub association_cmp : Association → Association → Ordering
association_cmp = on (λ a. (a.window, a.keys)) (pair_cmp bytes_cmp bytes_cmp)

-- how entries are typed
unfoldable pub auto_type_cmp : AutoType → AutoType → Ordering
auto_type_cmp = on (λ a. (a.enabled, (a.obfuscation, (a.sequence, a.pairs))))
    (pair_cmp bool_cmp (pair_cmp nat_cmp (pair_cmp bytes_cmp (slice_cmp association_cmp))))

-- the contents of two versions of an entry
unfoldable pub content_cmp : BareContent → BareContent → Ordering
content_cmp =
    on (λ c. (
      c.created,
      (
        c.expiry,
        (
          c.expires,
          (
            c.icon,
            (
              c.custom_icon,
              (
                c.fields,
                (
                  c.attachments,
                  (
                    c.tags,
                    (c.fore, (c.back, (c.url_override, (c.auto_type, (c.items, c.quality))))),
                  ),
                ),
              ),
            ),
          ),
        ),
      ),
    ))
    (pair_cmp nat_cmp (pair_cmp nat_cmp (pair_cmp bool_cmp
    (pair_cmp nat_cmp (pair_cmp (option_cmp bytes_cmp)
    (pair_cmp (slice_cmp field_cmp) (pair_cmp (slice_cmp attachment_cmp)
    (pair_cmp bytes_cmp (pair_cmp bytes_cmp (pair_cmp bytes_cmp (pair_cmp bytes_cmp
    (pair_cmp auto_type_cmp (pair_cmp (slice_cmp item_cmp) bool_cmp)))))))))))))

-- the contents of two groups
unfoldable pub group_content_cmp : GroupContent → GroupContent → Ordering
group_content_cmp =
    on (λ c. (
      c.created,
      (
        c.expiry,
        (
          c.expires,
          (
            c.name,
            (
              c.notes,
              (
                c.icon,
                (
                  c.custom_icon,
                  (
                    c.sequence,
                    (c.auto_type, (c.searching, (c.items, c.tags))),
                  ),
                ),
              ),
            ),
          ),
        ),
      ),
    ))
    (pair_cmp nat_cmp (pair_cmp nat_cmp (pair_cmp bool_cmp
    (pair_cmp bytes_cmp (pair_cmp bytes_cmp (pair_cmp nat_cmp
    (pair_cmp (option_cmp bytes_cmp) (pair_cmp bytes_cmp
    (pair_cmp tri_cmp (pair_cmp tri_cmp (pair_cmp (slice_cmp item_cmp) bytes_cmp)))))))))))

-- bins, one that is off below one that is on
unfoldable pub bin_cmp : Bin → Bin → Ordering
bin_cmp = on (λ b. (b.enabled, b.id)) (pair_cmp bool_cmp bytes_cmp)

-- which fields are hidden when they are made
unfoldable pub protection_cmp : Protection → Protection → Ordering
protection_cmp = on (λ p. (p.title, (p.user, (p.password, (p.url, p.notes)))))
    (pair_cmp bool_cmp (pair_cmp bool_cmp (pair_cmp bool_cmp (pair_cmp bool_cmp bool_cmp))))

-- the settings that change together
unfoldable pub settings_cmp : MetaSettings → MetaSettings → Ordering
settings_cmp =
    on (λ s. (
      s.color,
      (
        s.days,
        (
          s.key_rec,
          (
            s.key_force,
            (s.protect, (s.history_items, (s.history_size, s.key_force_once))),
          ),
        ),
      ),
    ))
    (pair_cmp bytes_cmp (pair_cmp nat_cmp (pair_cmp int_cmp
    (pair_cmp int_cmp (pair_cmp protection_cmp (pair_cmp int_cmp (pair_cmp int_cmp bool_cmp)))))))

-- icons of one id: the later one, then by the rest
unfoldable pub icon_cmp : Icon → Icon → Ordering
icon_cmp = on (λ i. (i.changed, (i.id, (i.bytes, i.name))))
    (pair_cmp nat_cmp (pair_cmp bytes_cmp (pair_cmp bytes_cmp bytes_cmp)))

-- custom items of one key: the later one, then by the rest
unfoldable pub later_item_cmp : Item → Item → Ordering
later_item_cmp = on (λ i. (i.changed, (i.key, i.value)))
    (pair_cmp nat_cmp (pair_cmp bytes_cmp bytes_cmp))
