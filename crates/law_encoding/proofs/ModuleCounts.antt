-- A module that the checker accepts counts no more than its tree.
use Rattle.std.proofs.Common.{map, ◌≡◌, ℕ, ◌+◌, ◌*◌, ◌≤◌, true, List, [], ◌∷◌, ◌++◌, Option, Some, None, Result, Ok, Err, refl, ap, ◌∙◌, arith}
use Rattle.std.specs.Prelude.{◌==◌}
use Rattle.std.specs.List.{fold}
use Rattle.m2_tree.specs.declared.stmt.Stmt.{Stmt}
use Rattle.m2_tree.specs.declared.decl.Decl.{Decl, Decl-F, out-Decl}
use Rattle.m2_tree.specs.declared.decl.Decl.TheOpen as layer
use Rattle.m2_tree.specs.declared.decl.Block.{Block, out-Block}
use Rattle.m2_tree.specs.declared.decl.Contents.{Contents}
use Rattle.m2_tree.specs.declared.decl.Contents.TheVariants as contents
use Rattle.m2_tree.specs.declared.decl.Module.{Module}
use Rattle.typed_tree.specs.declared.known_types.Types.{Types}
use Rattle.typed_tree.specs.declared.statement.TypedStmt.{TypedStmt}
use Rattle.typed_tree.specs.declared.table.Table.{Table}
use Rattle.typed_tree.specs.declared.types.TypeNo.{TypeNo}
use Rattle.typed_tree.specs.declared.typed_module.TypedModule.{TypedModule}
use Rattle.check_scope.specs.Elaborated.{Gathers, both, ◌▷◌}
use Rattle.check_scope.specs.Scopes.{State}
use Rattle.check_scope.specs.declared.scope.Scope.{Scope}
use Rattle.check_definition.specs.Importing.{with_import}
use Rattle.check_definition.specs.Predeclared.{console, first_scope}
use Rattle.check_block.specs.Declarations.{reported_of_lack, declared_block}
use Rattle.check_block.specs.Nesting.{procedure_ends}
use Rattle.check_body.specs.Own.{implementation_scope}
use Rattle.check_body.specs.Routines.{empty_routine, typed_module}
use Rattle.check_body.specs.declared.procedure.Walk.{Walk}
use Rattle.check_body.specs.Elaborating.{Elaborates}
use Rattle.check_body.specs.Bodies.{bodies_checked}
use Rattle.check_body.specs.Checked.{begun_module, walk_body, of_walk, of_implementation, of_contents, body_module}
use Rattle.law_well_formed.specs.FormedBodies.{FormsStatements}
use Rattle.law_folds.proofs.AgainSteps.{block_reported}
use Rattle.law_well_formed.proofs.ScopesDeclarations.{beside_left}
use Rattle.law_encoding.specs.Sizes.{sum_of, size_decl, size_block, size_section, size_stmts, size_stmts_if, size_contents, size_module}
use Rattle.law_encoding.specs.Sizes as sizes
use Rattle.law_encoding.specs.TypedSizes.{size_body}
use Rattle.law_encoding.specs.Counted.{AtMost, fine, broken}
use Rattle.law_encoding.specs.Short.{routine_counts, counts_in}
use Rattle.law_encoding.specs.DeclaredProcedures.{ExportsOnce}
use Rattle.law_encoding.proofs.Sums.{total_map}
use Rattle.law_encoding.proofs.Variants.{sizes_decl}
use Rattle.law_encoding.proofs.Variants as variants
use Rattle.law_encoding.proofs.Results.{at_more}
use Rattle.law_encoding.proofs.KeptImports.{imports_keep}
use Rattle.law_encoding.proofs.AwaitedDeclarations.{count_of, all_counts}
use Rattle.law_encoding.proofs.DeclaredProcedures.{AwaitsAll, own_awaits, headings_few}
use Rattle.law_encoding.proofs.HeadingCounts.{names_in, heading_names, type_weight, block_withs, block_fits}
use Rattle.law_encoding.proofs.RoutineCounts.{outermost_size, outermost_sizes, section_sizes, counts_so_far, statements_most, Ends, ends_at, outermost_most, block_level}

-- ---- trees

heading_sum : (h b n s : ℕ) → n ≡ 1 + (1 + s) + b → s ≡ 2 * h → 1 + h + (0 + (1 + h) + b) ≤ n
heading_sum h b n s e f = omega (arith, e, f)

nothing_in : (n : ℕ) → 0 + 0 ≤ n
nothing_in n = omega arith

decl_by : (d : Decl) (x : Decl-F Decl Block) → size_decl d ≡ sizes.decl_layer (sizes_decl x)
    → count_of heading_names x + outermost_size x ≤ size_decl d
decl_by d (layer.Constants cs) e = nothing_in _
decl_by d (layer.Types ts) e = nothing_in _
decl_by d (layer.Variables vs) e = nothing_in _
decl_by d (layer.Procedure h b) e = heading_sum (names_in h) (size_block b) (size_decl d)
    (sum_of size_section h.formals) e (section_sizes h.formals)

pair_sum : (a b c d n m : ℕ) → a + b ≤ n → c + d ≤ m → a + c + (b + d) ≤ n + m
pair_sum a b c d n m h k = omega (arith, h, k)

-- the headings and what stands in them
decls_few : (ds : List Decl) → all_counts heading_names ds + outermost_sizes ds ≤ sum_of size_decl ds
decls_few [] = nothing_in 0
decls_few (d ∷ ds) = pair_sum (count_of heading_names (out-Decl d)) (outermost_size (out-Decl d)) _ _ (size_decl d) _
    (decl_by d (out-Decl d) (variants.at_decl d (out-Decl d) refl)) (decls_few ds)

block_size : (b : Block) → size_block b ≡ 1 + sum_of size_decl (out-Block b).decls + size_stmts_if (out-Block b).body
block_size b = variants.at_block b (out-Block b) refl
    ∙ ap (λ n. 1 + n + size_stmts_if (out-Block b).body) (total_map size_decl (out-Block b).decls)

-- ---- procedures whose bodies are not checked yet

unfilled_sum : (w n m : ℕ) → n ≡ m → w + 0 + n ≡ w + m
unfilled_sum w n m e = omega (arith, e)

unfilled_counts : (types : Types) (hs : List TypeNo)
    → sum_of (routine_counts types) (map empty_routine hs) ≡ sum_of (type_weight types) hs
unfilled_counts types [] = refl
unfilled_counts types (h ∷ hs) = unfilled_sum (type_weight types h) _ _ (unfilled_counts types hs)

begun_sum : (a w n : ℕ) → a ≡ w → w ≤ n → a + 0 ≤ n
begun_sum a w n e h = omega (arith, e, h)

-- ---- modules

module_sum : (p l b h o d j n : ℕ) → p + l ≤ h + o → h + o ≤ d → b ≤ j → n ≡ 1 + d + j → p + l + b ≤ n
module_sum p l b h o d j n q r k e = omega (arith, q, r, k, e)

module _ (g : Gathers) where
  both_few : (n j : ℕ) (a : Result (Unit {0}) g.Reported) {r : Result (List TypedStmt) g.Reported}
      (f : List TypedStmt → TypedModule) → AtMost size_body j r
      → ((ys : List TypedStmt) → a ≡ Ok tt → size_body ys ≤ j → counts_in (f ys) ≤ n)
      → AtMost counts_in n (both g a r ▷ λ p. Ok (f p.1))
  both_few n j (Ok u) f (fine ys q) k = fine (f ys) (k ys refl q)
  both_few n j (Ok u) f (broken e) k = broken e
  both_few n j (Err e) f (fine ys q) k = broken e
  both_few n j (Err e) f (broken x) k = broken (g.join e x)

  module _ (elaborates : Elaborates g.Reported) (forms : FormsStatements g elaborates)
      (small : (s : Scope g.Reported) (r : Option (Result TypeNo g.Reported)) (xs : List Stmt)
      → AtMost size_body (size_stmts xs) (elaborates s r xs)) where
    -- a module begins with no record opened, outside procedures
    pub record Begins (s : Scope g.Reported) : Type 0 where
      pub withs : s.withs ≡ []
      pub level : (s.level == 0) ≡ true
      pub awaits : (weight : TypeNo → ℕ) → AwaitsAll weight s

    module _ (modules : List (List ℕ × ℕ)) (s : Scope g.Reported) (m : Module) (b : Block) (begins : Begins s) where
      abbrev ds : List Decl
      ds = (out-Block b).decls

      abbrev ends : List ℕ
      ends = procedure_ends ds

      abbrev imported : State (Unit {0}) g.Reported
      imported = fold (with_import g modules) (s, Ok tt) m.imports

      imported_withs : imported.0.withs ≡ []
      imported_withs = imports_keep g (λ z. z.withs ≡ []) (λ z name k e h. h) modules m.imports (s, Ok tt) begins.withs

      imported_level : (imported.0.level == 0) ≡ true
      imported_level = imports_keep g (λ z. (z.level == 0) ≡ true) (λ z name k e h. h) modules m.imports (s, Ok tt)
          begins.level

      abbrev begun : Walk g.Reported × List ℕ
      begun = begun_module g modules ends s m ds

      abbrev last : Walk g.Reported
      last = bodies_checked g elaborates ends None begun.1 begun.0 ds

      abbrev types : Types
      types = last.scope.types

      bodies_few : last.so_far ≡ Ok tt → counts_so_far types last.bodies ≤ all_counts heading_names ds + outermost_sizes
          ds
      bodies_few ok =
          let e : Ends types g elaborates forms small last = record { reported = ok; within = λ t x k. k } in
          let first : Ends types g elaborates forms small begun.0 =
          ends_at types g elaborates forms small ends begun.1 ds (begun.0, 0) e in
          let block_ok = block_reported g ends imported 0 ds
          (beside_left g (declared_block g ends imported 0 ds).1
          (reported_of_lack g m.name.pos (declared_block g ends imported 0 ds).0) first.reported) in
          let fits = block_fits types g ends 0 ds imported.0 imported.1 imported_withs block_ok first.within in
          let heads = headings_few (type_weight types) heading_names g modules s m ds fits.1
          (begins.awaits (type_weight types)) first.reported in
          outermost_most types g elaborates forms small ends begun.1 begun.0.scope.own ds (begun.0, 0)
          (all_counts heading_names ds) refl
          (block_withs types g ends 0 ds imported.0 imported.1 imported_withs)
          (ap (λ (l : ℕ). l == 0) (block_level types g elaborates forms small ends imported.0 imported.1 0 ds)
          ∙ imported_level) fits.0 e
          (begun_sum _ _ _ (unfilled_counts types begun.0.scope.procedures) heads)

    walk_few : (modules : List (List ℕ × ℕ)) (s : Scope g.Reported) (own : Option Table) (m : Module) (b : Block)
        → Begins s → AtMost counts_in (size_block b) (of_walk g elaborates modules s own m b)
    walk_few modules s own m b begins =
        let c = walk_body g elaborates modules (procedure_ends (out-Block b).decls) s m b in
        both_few (size_block b) (size_stmts_if (out-Block b).body) c.0.so_far
        (λ ys. typed_module c.0.scope modules own m c.0.bodies ys)
        (statements_most c.0.scope.types g elaborates forms small c.0.scope None (out-Block b).body)
        (λ ys ok q. module_sum _ _ (size_body ys) _ _ _ _ (size_block b) (bodies_few modules s m b begins ok)
        (decls_few (out-Block b).decls) q (block_size b))

    implementation_few : (m : Module) (o : Option Table) (tables : List Table) (b : Block) → ExportsOnce o
        → AtMost counts_in (size_block b) (of_implementation g elaborates m o tables b)
    implementation_few m None tables b once = broken _
    implementation_few m (Some own) tables b once =
        walk_few _ (implementation_scope own tables) (Some own) m b
        (record { withs = refl; level = refl; awaits = λ weight. own_awaits weight g.Reported own tables once })

    no_procedures : (n : ℕ) → 0 ≤ n
    no_procedures n = omega arith

    contents_few : (number : ℕ) (m : Module) (own : Option Table) (tables : List Table) (c : Contents) → ExportsOnce own
        → AtMost counts_in (size_contents c) (of_contents g elaborates number m own tables c)
    contents_few number m own tables (contents.Definition defs) once = broken _
    contents_few number m own tables (contents.Implementation b) once = implementation_few m own tables b once
    contents_few number m own tables (contents.Program b) once =
        walk_few _ (first_scope number tables) None m b
        (record { withs = refl; level = refl; awaits = λ weight. no_procedures _ })

    more_than : (a b : ℕ) → b ≤ 1 + a + b
    more_than a b = omega arith

    pub module_few : (number : ℕ) (m : Module) (own : Option Table) (tables : List Table) → ExportsOnce own
        → AtMost counts_in (size_module m) (body_module g elaborates number m own tables)
    module_few number m own tables once = at_more (more_than _ (size_contents m.contents))
        (contents_few number m own (tables ++ console ∷ []) m.contents once)
