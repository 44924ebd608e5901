-- What is seen of a request in memory, with the database that it is carried out on.
use Rattle.std.specs.Prelude.{map, option_map}
use Rattle.vault_model.specs.SeenDoc.{doc_seen}
use Rattle.cli_files.specs.declared.documents.Opened.{Opened}
use Rattle.cli_files.specs.SeenOpened.{opened_seen}
use Rattle.cli_files.specs.Tasks.{Task}
use Rattle.cli_lines.specs.SeenLines.{lines_seen}
use Rattle.call_run.specs.declared.carrying.Request.{Request}

-- The task of a request on a database.
abbrev pub task_by : Request → Opened → Task
task_by request opened = record {
  command = request.command;
  lines = lines_seen request.lines;
  opened = opened_seen opened;
  sources = map doc_seen request.sources;
  attached = option_map (λ bytes. bytes.value.bytes) request.attached;
}
