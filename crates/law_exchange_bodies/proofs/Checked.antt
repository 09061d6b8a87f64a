-- Program and implementation modules, checked with other numbers of modules.
use Rattle.std.proofs.Common.{◌≡◌, ℕ, List, [], ◌∷◌, ◌++◌, map, Option, Some, None, Result, Ok, Err, refl, sym, ap, ◌∙◌, option_map}
use Rattle.std.proofs.lemmas.List.{map-append}
use Rattle.m2_tree.specs.declared.decl.Decl.{Decl}
use Rattle.m2_tree.specs.declared.decl.Block.{Block, out-Block}
use Rattle.m2_tree.specs.declared.decl.Contents.{Contents}
use Rattle.m2_tree.specs.declared.decl.Contents.TheVariants as contents
use Rattle.m2_tree.specs.declared.decl.Module.{Module}
use Rattle.typed_tree.specs.declared.statement.TypedStmt.{TypedStmt}
use Rattle.typed_tree.specs.declared.table.Table.{Table}
use Rattle.check_scope.specs.declared.scope.Scope.{Scope}
use Rattle.check_scope.specs.Elaborated.{Gathers, both, ◌▷◌}
use Rattle.check_definition.specs.Predeclared.{console, first_scope}
use Rattle.check_definition.specs.Importing.{numbered_modules}
use Rattle.check_block.specs.Nesting.{procedure_ends}
use Rattle.check_block.specs.Declarations.{Declared, declared_module}
use Rattle.check_body.specs.Own.{implementation_scope}
use Rattle.check_body.specs.Routines.{no_bodies, typed_module}
use Rattle.check_body.specs.declared.routine.Bodies.{Bodies}
use Rattle.check_body.specs.declared.procedure.Walk.{Walk}
use Rattle.check_body.specs.Elaborating.{Elaborates}
use Rattle.check_body.specs.Bodies.{Checked, begun_from, with_statements, bodies_checked}
use Rattle.check_body.specs.Checked.{module_or, begun_module, walk_body, of_walk, of_body, of_implementation, of_contents, body_module}
use Rattle.def_exchange.specs.Moved.{Exchange, moved_table}
use Rattle.law_exchange_types.specs.Pieces.{map_ok}
use Rattle.law_exchange_types.specs.Scopes.{moved_scope}
use Rattle.law_exchange_bodies.specs.Modules.{moved_declared, moved_bodies, moved_walk, moved_checked, moved_module}
use Rattle.law_exchange_exprs.specs.Steps.{moved_stmt}
use Rattle.law_exchange_bodies.specs.Premises.{BodiesElaborate, KeepsConsole}
use Rattle.law_exchange_bodies.proofs.Declarations.{declared_module_moves}
use Rattle.law_exchange_bodies.proofs.Own.{implementation_scope_moves}
use Rattle.law_exchange_bodies.proofs.Routines.{no_bodies_moves, typed_module_moves}
use Rattle.law_exchange_bodies.proofs.Bodies.{with_statements_moves, bodies_checked_moves}
use Rattle.law_exchange_types.proofs.Begin.{first_moves, numbered_moves}

pub console_moves : (z : Exchange) → KeepsConsole z → moved_table z console ≡ console
unfolding console
console_moves z k = ap (λ (n : ℕ). record console { number = n }) k

-- ---- what is known of a module at its end

both_then : (g : Gathers) {B C : Type 0} (h : B → B) (l : C → C) (a : Result (Unit {0}) g.Reported)
    (b : Result B g.Reported) (k m : B → C) → ((v : B) → m (h v) ≡ l (k v))
    → (both g a (map_ok h b) ▷ λ p. Ok (m p.1)) ≡ map_ok l (both g a b ▷ λ p. Ok (k p.1))
both_then g h l (Ok a) (Ok b) k m e = ap Ok (e b)
both_then g h l (Ok a) (Err d) k m e = refl
both_then g h l (Err c) (Ok b) k m e = refl
both_then g h l (Err c) (Err d) k m e = refl

pub module_or_moves : (z : Exchange) (g : Gathers) (modules : List (List ℕ × ℕ)) (own : Option Table) (m : Module)
    (c : Checked g.Reported)
    → module_or g modules (option_map (moved_table z) own) m (moved_checked z c)
    ≡ map_ok (moved_module z) (module_or g modules own m c)
module_or_moves z g modules own m c =
    both_then g (map (moved_stmt z)) (moved_module z) c.0.so_far c.1
    (λ (body : List TypedStmt). typed_module c.0.scope modules own m c.0.bodies body)
    (λ (body : List TypedStmt).
    typed_module (moved_scope z c.0.scope) modules (option_map (moved_table z) own) m (moved_bodies z c.0.bodies) body)
    (λ body. typed_module_moves z c.0.scope modules own m c.0.bodies body)

module _ (z : Exchange) (g : Gathers) where
  pub begun_module_moves : (modules : List (List ℕ × ℕ)) (ends : List ℕ) (s : Scope g.Reported) (m : Module)
      (ds : List Decl)
      → begun_module g modules ends (moved_scope z s) m ds
      ≡ (moved_walk z (begun_module g modules ends s m ds).0, (begun_module g modules ends s m ds).1)
  begun_module_moves modules ends s m ds =
      let d : Declared g.Reported = declared_module g modules ends s m ds in
      ap (λ (d : Declared g.Reported). (begun_from d (no_bodies d.0.procedures), d.2))
      (declared_module_moves z g modules ends s m ds)
      ∙ ap (λ (rs : Bodies). (begun_from (moved_declared z d) rs, d.2)) (no_bodies_moves z d.0.procedures)

module _ (z : Exchange) (g : Gathers) (elaborates : Elaborates g.Reported)
    (e : BodiesElaborate z g elaborates) where
  abbrev walk_from : List ℕ → Block → Walk g.Reported × List ℕ → Checked g.Reported
  walk_from ends b w =
      with_statements elaborates None (out-Block b).body
      (bodies_checked g elaborates ends None w.1 w.0 (out-Block b).decls)

  pub walk_body_moves : (modules : List (List ℕ × ℕ)) (ends : List ℕ) (s : Scope g.Reported) (m : Module) (b : Block)
      → walk_body g elaborates modules ends (moved_scope z s) m b
      ≡ moved_checked z (walk_body g elaborates modules ends s m b)
  walk_body_moves modules ends s m b =
      let ds : List Decl = (out-Block b).decls in
      let w : Walk g.Reported × List ℕ = begun_module g modules ends s m ds in
      ap (walk_from ends b) (begun_module_moves z g modules ends s m ds)
      ∙ (ap (with_statements elaborates None (out-Block b).body)
      (bodies_checked_moves z g elaborates e ends None w.1 w.0 ds)
      ∙ with_statements_moves z g elaborates e None (out-Block b).body
      (bodies_checked g elaborates ends None w.1 w.0 ds))

  pub of_walk_moves : (modules : List (List ℕ × ℕ)) (s : Scope g.Reported) (own : Option Table) (m : Module) (b : Block)
      → of_walk g elaborates modules (moved_scope z s) (option_map (moved_table z) own) m b
      ≡ map_ok (moved_module z) (of_walk g elaborates modules s own m b)
  of_walk_moves modules s own m b =
      let ends : List ℕ = procedure_ends (out-Block b).decls in
      ap (module_or g modules (option_map (moved_table z) own) m) (walk_body_moves modules ends s m b)
      ∙ module_or_moves z g modules own m (walk_body g elaborates modules ends s m b)

  pub of_body_moves : (s : Scope g.Reported) (own : Option Table) (m : Module) (b : Block)
      → of_body g elaborates (moved_scope z s) (option_map (moved_table z) own) m b
      ≡ map_ok (moved_module z) (of_body g elaborates s own m b)
  of_body_moves s own m b =
      ap (λ (ms : List (List ℕ × ℕ) × ℕ). of_walk g elaborates ms.0 (moved_scope z s) (option_map (moved_table z) own) m
      b)
      (numbered_moves z s.tables)
      ∙ of_walk_moves (numbered_modules s.tables).0 s own m b

  pub of_implementation_moves : (m : Module) (own : Option Table) (tables : List Table) (b : Block)
      → of_implementation g elaborates m (option_map (moved_table z) own) (map (moved_table z) tables) b
      ≡ map_ok (moved_module z) (of_implementation g elaborates m own tables b)
  of_implementation_moves m None tables b = refl
  of_implementation_moves m (Some own) tables b =
      ap (λ (s : Scope g.Reported). of_body g elaborates s (Some (moved_table z own)) m b)
      (implementation_scope_moves z {T = g.Reported} own tables)
      ∙ of_body_moves (implementation_scope {T = g.Reported} own tables) (Some own) m b

  pub of_contents_moves : (number : ℕ) (m : Module) (own : Option Table) (tables : List Table) (c : Contents)
      → of_contents g elaborates (z.there number) m (option_map (moved_table z) own) (map (moved_table z) tables) c
      ≡ map_ok (moved_module z) (of_contents g elaborates number m own tables c)
  of_contents_moves number m own tables (contents.Definition defs) = refl
  of_contents_moves number m own tables (contents.Implementation b) = of_implementation_moves m own tables b
  of_contents_moves number m own tables (contents.Program b) =
      ap (λ (s : Scope g.Reported). of_body g elaborates s None m b) (first_moves z {T = g.Reported} number tables)
      ∙ of_body_moves (first_scope {T = g.Reported} number tables) None m b

  pub body_module_moves : KeepsConsole z → (number : ℕ) (m : Module) (own : Option Table) (imports : List Table)
      → body_module g elaborates (z.there number) m (option_map (moved_table z) own) (map (moved_table z) imports)
      ≡ map_ok (moved_module z) (body_module g elaborates number m own imports)
  body_module_moves k number m own imports =
      ap (λ (ts : List Table).
      of_contents g elaborates (z.there number) m (option_map (moved_table z) own) ts m.contents)
      (ap (λ (c : Table). map (moved_table z) imports ++ c ∷ []) (sym (console_moves z k))
      ∙ sym (map-append (moved_table z) imports (console ∷ [])))
      ∙ of_contents_moves number m own (imports ++ console ∷ []) m.contents
