-- What is seen of a task in memory.
use Rattle.std.specs.Prelude.{map, option_map}
use Rattle.vault_model.specs.SeenDoc.{doc_seen}
use Rattle.cli_files.specs.SeenOpened.{opened_seen}
use Rattle.cli_lines.specs.SeenLines.{lines_seen}
use Rattle.cli_files.specs.declared.task.Task as memory
use Rattle.cli_files.specs.Tasks.{Task}

-- A task by its lines' bytes and the nodes of its databases' documents.
abbrev pub task_seen : memory.Task → Task
task_seen task = record {
  command = task.command;
  lines = lines_seen task.lines;
  opened = opened_seen task.opened;
  sources = map doc_seen task.sources;
  attached = option_map (λ bytes. bytes.value.bytes) task.attached;
}
