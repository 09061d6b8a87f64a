-- A module, from its parts.
use Rattle.std.proofs.Common.{◌≡◌, ℕ, List, [], ◌∷◌, ◌++◌, Option, Some, None, Result, IfOk, subst, sym, ap, ◌∙◌}
use Rattle.m2_tree.specs.declared.decl.Decl.{Decl}
use Rattle.m2_tree.specs.declared.decl.Block.{Block, out-Block}
use Rattle.m2_tree.specs.declared.decl.Contents.{Contents}
use Rattle.m2_tree.specs.declared.decl.Contents.TheVariants as contents
use Rattle.m2_tree.specs.declared.decl.Module.{Module}
use Rattle.typed_tree.specs.declared.table.Table.{Table}
use Rattle.typed_tree.specs.declared.typed_module.TypedModule.{TypedModule}
use Rattle.m2_rule.specs.declared.breach.Breach.{Breach}
use Rattle.check_scope.specs.declared.scope.Scope.{Scope}
use Rattle.check_scope.specs.Elaborated.{least}
use Rattle.check_definition.specs.Predeclared.{console, first_scope}
use Rattle.check_definition.specs.Importing.{numbered_modules}
use Rattle.check_block.specs.Nesting.{procedure_ends}
use Rattle.check_body.specs.Own.{implementation_scope}
use Rattle.check_body.specs.Elaborating.{Elaborates}
use Rattle.check_body.specs.Bodies.{Checked}
use Rattle.check_body.specs.Checked.{module_or, walk_body, of_walk, of_body, of_implementation, of_contents, body_module}

abbrev Answer : Type 0
Answer = Result TypedModule Breach

-- what is answered, by another name
abbrev pub Answers : {E : Type 0} → Result Answer E → Answer → Type 0
Answers r x = IfOk r (λ j. j ≡ x)

by_name : {E : Type 0} (r : Result Answer E) {x y : Answer} → x ≡ y → Answers r x → Answers r y
by_name r e h = subst (λ (x : Answer). Answers r x) e h

module _ {E : Type 0} (elaborates : Elaborates Breach) (r : Result Answer E) (m : Module) (b : Block) where
  pub walk_is : (modules : List (List ℕ × ℕ)) (s : Scope Breach) (own : Option Table) (ds : List Decl)
      (ends es : List ℕ) (c : Checked Breach)
      → ds ≡ (out-Block b).decls → ends ≡ procedure_ends ds → es ≡ ends
      → c ≡ walk_body least elaborates modules es s m b
      → Answers r (module_or least modules own m c) → Answers r (of_walk least elaborates modules s own m b)
  walk_is modules s own ds ends es c e0 e1 e2 e3 h =
      let e : es ≡ procedure_ends (out-Block b).decls = e2 ∙ e1 ∙ ap procedure_ends e0 in
      by_name r (ap (module_or least modules own m)
      (e3 ∙ ap (λ (x : List ℕ). walk_body least elaborates modules x s m b) e)) h

  pub body_is : (s : Scope Breach) (own : Option Table) (tables : List Table) (modules : List (List ℕ × ℕ)) (n : ℕ)
      → tables ≡ s.tables → (modules, n) ≡ numbered_modules tables
      → Answers r (of_walk least elaborates modules s own m b) → Answers r (of_body least elaborates s own m b)
  body_is s own tables modules n e0 e1 h =
      let e : modules ≡ (numbered_modules s.tables).0 =
      ap (λ (p : List (List ℕ × ℕ) × ℕ). p.0) (e1 ∙ ap numbered_modules e0) in
      by_name r (ap (λ (x : List (List ℕ × ℕ)). of_walk least elaborates x s own m b) e) h

  pub implementation_is : (s : Scope Breach) (own : Option Table) (t : Table) (tables : List Table)
      → own ≡ Some t → s ≡ implementation_scope t tables
      → Answers r (of_body least elaborates s own m b) → Answers r (of_implementation least elaborates m own tables b)
  implementation_is s own t tables e0 e1 h =
      by_name r (ap (λ (x : Option Table). of_body least elaborates s x m b) e0
      ∙ ap (λ (x : Scope Breach). of_body least elaborates x (Some t) m b) e1
      ∙ sym (ap (λ (x : Option Table). of_implementation least elaborates m x tables b) e0)) h

  pub program_is : (s first : Scope Breach) → s ≡ first → Answers r (of_body least elaborates s None m b)
      → Answers r (of_body least elaborates first None m b)
  program_is s first e h = by_name r (ap (λ (x : Scope Breach). of_body least elaborates x None m b) e) h

  pub module_is : (number : ℕ) (own : Option Table) (imports tables : List Table) → m.contents ≡ contents.Program b
      → tables ≡ imports ++ console ∷ []
      → Answers r (of_body least elaborates (first_scope number tables) None m b)
      → Answers r (body_module least elaborates number m own imports)
  module_is number own imports tables e0 e1 h =
      by_name r (ap (λ (ts : List Table). of_body least elaborates (first_scope number ts) None m b) e1
      ∙ sym (ap (λ (x : Contents). of_contents least elaborates number m own (imports ++ console ∷ []) x) e0)) h
