-- What is seen of the parts of a file in memory: their bytes.
use Rattle.psafe_file.specs.SafeFiles as files
use Rattle.psafe_file.specs.declared.parts.Preamble.{Preamble}
use Rattle.psafe_file.specs.declared.parts.SafeFile.{SafeFile}

-- What is before the blocks.
abbrev pub preamble_seen : Preamble → files.Preamble
preamble_seen p = record {
  salt = p.salt.now;
  iterations = p.iterations;
  check = p.check;
  enciphered_block_key = p.enciphered_block_key;
  enciphered_mac_key = p.enciphered_mac_key;
  iv = p.iv;
}

-- A file by its parts.
abbrev pub file_seen : SafeFile → files.SafeFile
file_seen f = record { preamble = preamble_seen f.preamble; blocks = f.blocks.now; mac = f.mac }
