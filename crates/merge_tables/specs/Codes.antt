-- Codes of versions: each mark is coded as the parts that it is made of.
use Rattle.std.specs.Prelude.{ℕ, Bool, List, Option, refl}
use Rattle.std.specs.Coded.{Coded, code_by, coded×, coded_ℕ, coded_bool, coded_list, coded_option}
use Rattle.std.specs.FinMap.{code}
use Rattle.vault_model.specs.declared.contents.Association.{Association}
use Rattle.vault_model.specs.declared.contents.AutoType.{AutoType}
use Rattle.vault_model.specs.declared.contents.Item.{Item}
use Rattle.vault_model.specs.declared.contents.Stats.{Stats}
use Rattle.vault_model.specs.Bare.{BareAttachment, BareContent, BareField}
use Rattle.vault_model.specs.Db.{Mark, Versions}

-- a text is coded as its bytes
abbrev pub bytes_code : Coded (List ℕ)
bytes_code = coded_list coded_ℕ

-- fields
abbrev pub field_code : Coded BareField
field_code =
    code_by (List ℕ × (List ℕ × Bool)) (coded× bytes_code (coded× bytes_code coded_bool))
    (λ f. (f.key, (f.value, f.hidden)))
    (λ p. record { key = p.0; value = p.1.0; hidden = p.1.1 }) (λ _. refl)

-- attachments
abbrev pub attachment_code : Coded BareAttachment
attachment_code =
    code_by (List ℕ × (List ℕ × Bool)) (coded× bytes_code (coded× bytes_code coded_bool))
    (λ a. (a.name, (a.bytes, a.hidden)))
    (λ p. record { name = p.0; bytes = p.1.0; hidden = p.1.1 }) (λ _. refl)

-- custom items
abbrev pub item_code : Coded Item
item_code =
    code_by (List ℕ × (List ℕ × ℕ)) (coded× bytes_code (coded× bytes_code coded_ℕ))
    (λ i. (i.key, (i.value, i.changed)))
    (λ p. record { key = p.0; value = p.1.0; changed = p.1.1 }) (λ _. refl)

-- pairs of a window and its key strokes
abbrev pub association_code : Coded Association
association_code =
    code_by (List ℕ × List ℕ) (coded× bytes_code bytes_code) (λ a. (a.window, a.keys))
    (λ p. record { window = p.0; keys = p.1 }) (λ _. refl)

-- how entries are typed
abbrev pub auto_type_code : Coded AutoType
auto_type_code =
    code_by (Bool × (ℕ × (List ℕ × List Association)))
    (coded× coded_bool (coded× coded_ℕ (coded× bytes_code (coded_list association_code))))
    (λ a. (a.enabled, (a.obfuscation, (a.sequence, a.pairs))))
    (λ p. record { enabled = p.0; obfuscation = p.1.0; sequence = p.1.1.0; pairs = p.1.1.1 })
    (λ _. refl)

-- what versions say
abbrev pub content_code : Coded BareContent
content_code =
    code_by
    (ℕ × (ℕ × (Bool × (ℕ × (Option (List ℕ) × (List BareField
    × (List BareAttachment × (List ℕ × (List ℕ
    × (List ℕ × (List ℕ × (AutoType × (List Item × Bool)))))))))))))
    (coded× coded_ℕ (coded× coded_ℕ (coded× coded_bool
    (coded× coded_ℕ (coded× (coded_option bytes_code)
    (coded× (coded_list field_code) (coded× (coded_list attachment_code)
    (coded× bytes_code (coded× bytes_code (coded× bytes_code
    (coded× bytes_code (coded× auto_type_code
    (coded× (coded_list item_code) coded_bool)))))))))))))
    (λ c. (
      c.created,
      (
        c.expiry,
        (
          c.expires,
          (
            c.icon,
            (
              c.custom_icon,
              (
                c.fields,
                (
                  c.attachments,
                  (
                    c.tags,
                    (c.fore, (c.back, (c.url_override, (c.auto_type, (c.items, c.quality))))),
                  ),
                ),
              ),
            ),
          ),
        ),
      ),
    ))
    (λ p. record {
      created = p.0;
      expiry = p.1.0;
      expires = p.1.1.0;
      icon = p.1.1.1.0;
      custom_icon = p.1.1.1.1.0;
      fields = p.1.1.1.1.1.0;
      attachments = p.1.1.1.1.1.1.0;
      tags = p.1.1.1.1.1.1.1.0;
      fore = p.1.1.1.1.1.1.1.1.0;
      back = p.1.1.1.1.1.1.1.1.1.0;
      url_override = p.1.1.1.1.1.1.1.1.1.1.0;
      auto_type = p.1.1.1.1.1.1.1.1.1.1.1.0;
      items = p.1.1.1.1.1.1.1.1.1.1.1.1.0;
      quality = p.1.1.1.1.1.1.1.1.1.1.1.1.1;
    }) (λ _. refl)

-- marks
abbrev pub mark_code : Coded Mark
mark_code =
    code_by (ℕ × BareContent) (coded× coded_ℕ content_code) (λ m. (m.modified, m.content))
    (λ p. record { modified = p.0; content = p.1 }) (λ _. refl)

-- how versions were used
abbrev pub stats_code : Coded Stats
stats_code =
    code_by (ℕ × ℕ) (coded× coded_ℕ coded_ℕ) (λ s. (s.accessed, s.usage))
    (λ p. record { accessed = p.0; usage = p.1 }) (λ _. refl)

-- all versions of an entry
abbrev pub versions_code : Coded Versions
versions_code = code mark_code stats_code
