use Rattle.settled_laws.proofs.Exports.{exports_settle}
use Rattle.settled_laws.proofs.Imports.{safes_settle, tables_settle}
use Rattle.settled_laws.proofs.laws.imports_settle.Goals as goal

pub returns-clause-tables : goal.returns-clause-tables
returns-clause-tables c = tables_settle

pub returns-clause-safes : goal.returns-clause-safes
returns-clause-safes c = safes_settle

pub returns-clause-exports : goal.returns-clause-exports
returns-clause-exports c = exports_settle
