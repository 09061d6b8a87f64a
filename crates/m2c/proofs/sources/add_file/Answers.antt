use Rattle.std.proofs.Common.{◌≡◌, ◌++◌, ◌∷◌, [], Some, refl, rules}
use Rattle.run_directory.specs.Directory.{Read, HasRead}
use Rattle.build_jobs.specs.declared.file.SourceFile.{SourceFile}
use Rattle.m2c.proofs.sources.add_file.Goals as goal

pub returns-clause-ok : goal.returns-clause-ok
returns-clause-ok g c =
    let file : SourceFile = record { name = c.in-Ok.name; bytes = c.in-Some.bytes } in
    let pushed : c.push.new.self.items ≡ c.args.files.now.items ++ file ∷ [] = search rules in
    let read = Read c.args.name.now (Some c.in-Some.bytes.items) in
    let was_read : HasRead g.I.InDir.reads g.I.InDir.gives (read ∷ []) c.args.dir.now c.read.new.self = search rules in
    (read, was_read, file, pushed, (c.in-Ok.ensures.ok, refl))
