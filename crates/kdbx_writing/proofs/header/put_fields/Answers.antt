use Rattle.kdbx_writing.proofs.header.put_fields.Goals as goal

pub returns-in-V31 : goal.returns-in-V31
returns-in-V31 c = rw c.in-V31.is c.put_fields_31.ensures

pub returns-in-V40 : goal.returns-in-V40
returns-in-V40 c = rw c.in-V40.is c.put_fields_4.ensures

pub returns-in-V41 : goal.returns-in-V41
returns-in-V41 c = rw c.in-V41.is c.put_fields_4-in-V41.ensures
