-- What a folder and two streams of the system noted while modules were executed.
use Rattle.std.specs.Prelude.{ℕ, Some}
use Rattle.std.specs.String.{string_bytes}
use Rattle.system_streams.specs.declared.stream.ByteStream.{ByteStream}
use Rattle.system_streams.specs.declared.reading.InFolder.{InFolder}
use Rattle.system_streams.specs.Folders.{any_files}
use Rattle.run_directory.specs.Reported.{Executes}

-- From one state to the next the folder was asked for the files that an execution of this many
-- reductions reads, and gave what it noted. The streams wrote what the execution of these files
-- prints and reports, and this is its status.
abbrev pub HasExecuted : {R P Q : Type 0} → (steps status : ℕ) → (dir dir_after : InFolder R)
    (out out_after : ByteStream P) (err err_after : ByteStream Q) → Type 0
HasExecuted steps status dir dir_after out out_after err err_after =
    Executes (λ f. Some f.noted.reads) (λ f. any_files) (λ f. f.front.now)
    (λ f. string_bytes f.reason) (λ s. Some s.written.bytes) (λ s. s.failures)
    (λ s. Some s.written.bytes) (λ s. s.failures) steps status dir dir_after out out_after err
    err_after
