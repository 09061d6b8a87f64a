-- What files, a folder and two streams of the system noted while files were compiled.
use Rattle.std.specs.Prelude.{ℕ, List, Some}
use Rattle.std.specs.String.{string_bytes}
use Rattle.system_streams.specs.declared.stream.LineStream.{LineStream}
use Rattle.system_streams.specs.declared.reading.InFolder.{InFolder}
use Rattle.system_streams.specs.declared.writing.OutFolder.{OutFolder}
use Rattle.system_streams.specs.Folders.{any_files}
use Rattle.m2c.specs.Compiles.{Compiles, Options}

-- From one state to the next the files of these names were asked for, and gave what was noted. The
-- streams took what a compilation of these files prints, the folder was asked for what it saves,
-- and this is its status.
abbrev pub HasCompiled : {R P Q : Type 0} → (names : List (List ℕ)) → Options → (status : ℕ)
    → (files files_after : InFolder R) (dir dir_after : OutFolder R)
    (out out_after : LineStream P) (err err_after : LineStream Q) → Type 0
HasCompiled names options status files files_after dir dir_after out out_after err err_after =
    Compiles (λ d. Some d.noted.calls) (λ d. d.failures) (λ s. Some s.taken.bytes)
    (λ s. s.failures) (λ f. Some f.noted.reads) (λ f. any_files) (λ f. f.front.now)
    (λ f. string_bytes f.reason) (λ s. Some s.taken.bytes) (λ s. s.failures) names options status
    files files_after dir dir_after out out_after err err_after
