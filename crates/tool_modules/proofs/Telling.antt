-- One more definition is told.
use Rattle.std.proofs.Common.{◌≡◌, ℕ, ◌+◌, ◌<◌, List, [], ◌∷◌, ◌++◌, length, take, get_or, ap, sym, subst, ◌∙◌, add-one}
use Rattle.std.specs.List.{AllZip}
use Rattle.std.proofs.Math.Seq.{take-suc}
use Rattle.build_jobs.specs.declared.file.SourceFile.{SourceFile}
use Rattle.compile_module.specs.declared.made.Interface.{Interface as Needed}
use Rattle.link_parts.specs.declared.part.Interface.{Interface}
use Rattle.tool_modules.specs.Parts.{IsTold}

module _ (files : List SourceFile) where
  push : (ns : List Needed) (is : List Interface) (n : Needed) (i : Interface) → AllZip (IsTold files) ns is
      → IsTold files n i
      → AllZip (IsTold files) (ns ++ n ∷ []) (is ++ i ∷ [])
  push [] [] n i all told = (told, tt)
  push [] (j ∷ js) n i all told = absurd all
  push (m ∷ ms) [] n i all told = absurd all
  push (m ∷ ms) (j ∷ js) n i all told = (all.0, push ms js n i all.1 told)

  pub one_more : (needed : List Needed) (k : ℕ) (n : Needed) (i : Interface) (old new : List Interface)
      → k < length needed → n ≡ get_or needed k n
      → AllZip (IsTold files) (take k needed) old → IsTold files n i → new ≡ old ++ i ∷ []
      → AllZip (IsTold files) (take (k + 1) needed) new
  one_more needed k n i old new l at all told is =
      let taken : take (k + 1) needed ≡ take k needed ++ n ∷ [] =
      rw add-one (take-suc needed k n l ∙ ap (λ (x : Needed). take k needed ++ x ∷ []) (sym at)) in
      subst (λ (ns : List Needed). AllZip (IsTold files) ns new) (sym taken)
      (subst (λ (is : List Interface). AllZip (IsTold files) (take k needed ++ n ∷ []) is) (sym is)
      (push (take k needed) old n i all told))
