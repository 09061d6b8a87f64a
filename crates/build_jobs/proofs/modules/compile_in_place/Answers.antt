use Rattle.std.proofs.Common.{◌≡◌, ℕ, List, map, Option, Some, sym, ap, subst, ◌∙◌}
use Rattle.std.specs.Prelude.{Result, IfOk, slice_get}
use Rattle.std.specs.Option.{option_copied, option_map}
use Rattle.std.specs.Borrow.{Bor}
use Rattle.std.proofs.lemmas.Option.{slice_get-map}
use Rattle.m2_tree.specs.declared.decl.Module.{Module}
use Rattle.build_jobs.specs.declared.outcome.Compiled.{Compiled}
use Rattle.build_jobs.specs.Compiling.{compilation_of}
use Rattle.build_jobs.specs.Jobs.{compile_in_place}
use Rattle.build_jobs.specs.Borrowed.{modules_borrowed}
use Rattle.build_jobs.proofs.modules.compile_in_place.Goals as goal

abbrev tree_of : Bor (List ℕ) × Bor Module → Module
tree_of t = t.1.now

in_place : {E : Type 0} (r : Result Compiled E) (o : Option Module) (m : Module) (job : ℕ) (needed : List Compiled)
    → o ≡ Some m
    → IfOk r (λ x. x ≡ compilation_of m job needed) → IfOk r (λ x. x ≡ compile_in_place o job needed)
in_place r o m job needed e h = subst (λ (p : Option Module). IfOk r (λ x. x ≡ compile_in_place p job needed)) (sym e) h

pub returns-in-Some : goal.returns-in-Some
returns-in-Some c =
    let some : slice_get (modules_borrowed c.args.trees.now) c.args.file ≡ Some c.in-Some.tree.now.1.now =
    slice_get-map tree_of c.args.trees.now c.args.file
    ∙ ap (option_map tree_of) (sym c.at.ensures ∙ ap option_copied c.in-Some.is)
    in
    in_place c.compile.result (slice_get (modules_borrowed c.args.trees.now) c.args.file) c.in-Some.tree.now.1.now
    c.args.job (map (λ (n : Bor Compiled). n.now) c.args.needed.now) some c.compile.ensures
