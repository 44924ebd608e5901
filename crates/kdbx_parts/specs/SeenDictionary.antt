-- What is seen of values of the code that lend the bytes of a dictionary: the bytes.
use Rattle.std.specs.Prelude.{option_map}
use Rattle.kdbx_parts.specs.declared.dictionary.Item.{Item}
use Rattle.kdbx_parts.specs.declared.dictionary.ItemsRead.{ItemsRead}
use Rattle.kdbx_parts.specs.declared.dictionary.Keys.{Keys}
use Rattle.kdbx_parts.specs.declared.dictionary.KdfDescription.{KdfDescription}
use Rattle.kdbx_parts.specs.declared.dictionary.KdfDescription.TheVariants as code
use Rattle.kdbx_parts.specs.Dictionary as dictionary

-- An item of a dictionary.
abbrev pub item_seen : Item → dictionary.Item
item_seen i = record { kind = i.kind; key = i.key.now; value = i.value.now; rest = i.rest.now }

-- The values of items by their keys.
abbrev pub keys_seen : Keys → dictionary.Keys
keys_seen k = record {
  uuid = option_map (λ x. x.now) k.uuid;
  rounds = k.rounds;
  salt = option_map (λ x. x.now) k.salt;
  lanes = k.lanes;
  memory = k.memory;
  passes = k.passes;
  version = k.version;
  key = k.key;
  associated = k.associated;
}

-- The values of items by their keys, and the bytes after the items.
abbrev pub items_seen : ItemsRead → dictionary.ItemsRead
items_seen r = record { keys = keys_seen r.keys; rest = r.rest.now }

-- The key derivation that a dictionary describes.
abbrev pub description_seen : KdfDescription → dictionary.KdfDescription
description_seen (code.WrongVersion version) = dictionary.wrong_version version
description_seen (code.UnknownId id) = dictionary.unknown_id id
description_seen (code.Aes rounds seed) = dictionary.aes rounds seed
description_seen (code.Argon kind passes memory lanes salt version extra) =
    dictionary.argon kind passes memory lanes salt.now version extra
