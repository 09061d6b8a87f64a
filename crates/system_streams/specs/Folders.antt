-- Folders of the system.
use Rattle.run_directory.specs.Directory.{Files}

-- of what a file holds nothing is known
abbrev pub any_files : Files
any_files name bytes = Unit {0}
