-- Files as they are held.
use Rattle.m2_graph.specs.declared.sources.Source.{Source}
use Rattle.m2_graph.specs.Files.{File}

abbrev pub file_of : Source → File
file_of s = record { name = s.name.now; tree = s.tree.now; given = s.given }
