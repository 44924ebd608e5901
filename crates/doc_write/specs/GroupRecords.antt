-- A group in memory without its entries and groups.
use Rattle.vault_model.specs.Db.{NodeId}
use Rattle.vault_model.specs.Shape.{GroupRecord}
use Rattle.vault_model.specs.declared.nodes.Group.{Group, out-Group}

-- its id
abbrev pub group_id : Group → NodeId
group_id g = (out-Group g).id

-- what it says of itself
abbrev pub group_record : Group → GroupRecord
group_record g = record {
  placed = (out-Group g).placed;
  previous = (out-Group g).previous;
  state = (out-Group g).state;
  view = (out-Group g).view;
}
