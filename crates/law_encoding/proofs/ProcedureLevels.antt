-- Procedures stand no deeper in a module than they nest in its tree, by induction over blocks.
use Rattle.std.proofs.Common.{map, ◌≡◌, ℕ, suc, ◌+◌, ◌≤◌, Bool, true, false, List, [], ◌∷◌, ◌++◌, length, Option, Some, None, Result, Ok, Err, refl, sym, ap, subst, ◌∙◌, arith}
use Rattle.std.specs.Prelude.{cond, slice_get, ◌==◌, ◌-◌}
use Rattle.std.specs.List.{fold}
use Rattle.std.specs.Option.{unwrap_or}
use Rattle.std.proofs.lemmas.List.{length-append}
use Rattle.m2_tree.specs.declared.name.Ident.{Ident}
use Rattle.m2_tree.specs.declared.stmt.Stmt.{Stmt}
use Rattle.m2_tree.specs.declared.decl.Heading.{Heading}
use Rattle.m2_tree.specs.declared.decl.Decl.{Decl, Decl-F, out-Decl, roll-Decl, out-roll-Decl, map-Decl, fold_out-Decl, ind-Decl}
use Rattle.m2_tree.specs.declared.decl.Decl.TheOpen as layer
use Rattle.m2_tree.specs.declared.decl.Block.{Block, Block-F, out-Block, roll-Block, out-roll-Block, map-Block, fold_out-Block}
use Rattle.m2_tree.specs.declared.decl.Module.{Module}
use Rattle.m2_tree.specs.declared.decl.Contents.{Contents}
use Rattle.m2_tree.specs.declared.decl.Contents.TheVariants as contents
use Rattle.typed_tree.specs.declared.types.TypeNo.{TypeNo}
use Rattle.typed_tree.specs.declared.statement.TypedStmt.{TypedStmt}
use Rattle.typed_tree.specs.declared.table.Table.{Table}
use Rattle.typed_tree.specs.declared.typed_module.Routine.{Routine}
use Rattle.typed_tree.specs.declared.typed_module.TypedModule.{TypedModule}
use Rattle.typed_tree.specs.declared.typed_module.Which.{Which}
use Rattle.typed_tree.specs.declared.typed_module.Which.TheVariants as which
use Rattle.typed_tree.specs.Types.{integer}
use Rattle.check_scope.specs.declared.scope.Scope.{Scope}
use Rattle.check_scope.specs.declared.scope.Block.{Block as Around}
use Rattle.check_scope.specs.Elaborated.{Gathers}
use Rattle.check_scope.specs.Scopes.{State}
use Rattle.check_definition.specs.Importing.{with_import}
use Rattle.check_definition.specs.Predeclared.{first_scope}
use Rattle.check_block.specs.Naming.{with_marks}
use Rattle.check_block.specs.Nesting.{procedure_ends, within}
use Rattle.check_block.specs.Declarations.{Declared, all_declared, declared_module}
use Rattle.check_body.specs.declared.routine.Bodies.{Bodies}
use Rattle.check_body.specs.declared.routine.Numbered.{Numbered}
use Rattle.check_body.specs.declared.procedure.Walk.{Walk}
use Rattle.check_body.specs.Own.{implementation_scope}
use Rattle.check_body.specs.Routines.{empty_routine, put_routine, routine, typed_module}
use Rattle.check_body.specs.Elaborating.{Elaborates}
use Rattle.check_body.specs.Inside.{which_of, with_routine}
use Rattle.check_body.specs.Bodies.{Steps, Checks, ChecksBlock, marked_by, declared_by, again_by, checked_by, begun_from, with_body, procedure_checked, steps_layer, block_layer, steps, checks_block, checks_decl, bodies_checked}
use Rattle.check_body.specs.Checked.{begun_module, walk_body, of_walk, of_implementation, of_contents, body_module}
use Rattle.law_well_formed.specs.FormedScopes.{Leads}
use Rattle.law_well_formed.specs.FormedBodies.{FormsStatements, Keeps, FormedBlock}
use Rattle.law_well_formed.proofs.Parts.{nothing_at, no_home, nothing_open, all_marks, all_lead}
use Rattle.law_well_formed.proofs.Checks.{entry, inner, inside}
use Rattle.law_well_formed.proofs.BodiesBlocks.{step_keeps}
use Rattle.law_well_formed.proofs.Induction.{decls_formed, blocks_formed}
use Rattle.law_well_formed.proofs.ModulesSteps.{are_steps, declared_is}
use Rattle.law_encoding.specs.Nesting.{◌⊔◌, deepest_of, deepest}
use Rattle.law_encoding.specs.Counted.{AtMost, fine, broken}
use Rattle.law_encoding.specs.Outward.{outward_body, outward_routine, outward_bodies}
use Rattle.law_encoding.specs.Short.{beyond_routine}
use Rattle.law_encoding.specs.ProcedureNesting as nesting
use Rattle.law_encoding.specs.ProcedureNesting.{procedures_decl, procedures_block, procedures_contents, procedures_module}
use Rattle.law_encoding.specs.ProcedureLevels.{level_of, greatest_level}
use Rattle.law_encoding.proofs.Deepest.{deepest_append, deepest_map, deepest_set}
use Rattle.law_encoding.proofs.Results.{then_most, any_most}
use Rattle.law_encoding.proofs.Ways.{by_depth}
use Rattle.law_encoding.proofs.WaySums.{both_most}
use Rattle.law_encoding.proofs.KeptImports.{imports_keep}
use Rattle.law_encoding.proofs.NestedProcedures.{all_decl, all_block, at_decl, at_block}
use Rattle.law_encoding.proofs.Bounds.{body_near, walked_near}

module _ (most : ℕ) where
  -- ---- the bodies so far

  abbrev AreLow : Bodies → Type 0
  AreLow rs = deepest_of level_of rs.procedures ⊔ deepest_of level_of rs.locals ≤ most

  first_filled : (a b c d : ℕ) → a ≤ b ⊔ c → b ⊔ d ≤ most → c ≤ most → a ⊔ d ≤ most
  first_filled a b c d h k l = omega (arith, h, k, l)

  second_filled : (a b c d : ℕ) → a ≤ b ⊔ c → d ⊔ b ≤ most → c ≤ most → d ⊔ a ≤ most
  second_filled a b c d h k l = omega (arith, h, k, l)

  filled_low : (rs : Bodies) (w : Which) (r : Routine) → AreLow rs → r.level ≤ most → AreLow (put_routine rs w r)
  filled_low rs (which.Module k) r p q = first_filled _ _ _ _ (deepest_set level_of rs.procedures k r) p q
  filled_low rs (which.Local k) r p q = second_filled _ _ _ _ (deepest_set level_of rs.locals k r) p q

  begun_sum : (a b c : ℕ) → b ≡ c ⊔ (1 ⊔ 0) → a ⊔ c ≤ most → 1 ≤ most → a ⊔ b ≤ most
  begun_sum a b c e l k = omega (arith, e, l, k)

  begun_by : (b : Bool) (rs : Bodies) → AreLow rs → 1 ≤ most
      → AreLow (cond b rs (record rs { locals = rs.locals ++ empty_routine integer ∷ [] }))
  begun_by true rs p k = p
  begun_by false rs p k = begun_sum _ _ _ (deepest_append level_of rs.locals (empty_routine integer ∷ [])) p k

  -- ---- scopes

  module _ (g : Gathers) (elaborates : Elaborates g.Reported) (forms : FormsStatements g elaborates) where
    -- a block stands around each level, and the predeclared names around all
    abbrev IsDeep : Scope g.Reported → Type 0
    IsDeep s = length s.outer ≡ suc s.level

    moved_deep : (s s' : Scope g.Reported) → s'.outer ≡ s.outer → s'.level ≡ s.level → IsDeep s → IsDeep s'
    moved_deep s s' p q d = ap (λ (bs : List (Around g.Reported)). length bs) p ∙ d ∙ ap suc (sym q)

    -- ---- one procedure

    with_routine_low : (s : Scope g.Reported) (name : Ident) (around : Option Which) (formals : ℕ) (o : Option Numbered)
        (body : Result (List TypedStmt) g.Reported) (rs : Bodies) → AreLow rs → s.level ≤ most
        → AreLow (with_routine s name around formals o body rs)
    with_routine_low s name around formals None body rs p q = p
    with_routine_low s name around formals (Some k) (Ok xs) rs p q =
        filled_low rs k.which (routine s name k around formals xs) p q
    with_routine_low s name around formals (Some k) (Err e) rs p q = p

    -- a declaration, and how deep procedures stand in one another
    abbrev Lows : ℕ → Checks g.Reported → Type 0
    Lows n f = (around : Option Which) (seen : ℕ) (w : Walk g.Reported) → IsDeep w.scope → w.scope.level + n ≤ most
        → AreLow w.bodies → AreLow (f around seen w).bodies

    -- a block in which they do, of a procedure
    abbrev LowsBlock : ℕ → ChecksBlock g.Reported → Type 0
    LowsBlock n f = (around : Option Which) (returns : Option (Result TypeNo g.Reported)) (w : Walk g.Reported)
        → IsDeep w.scope → w.scope.level + n ≤ most → AreLow w.bodies → AreLow (f around returns w).0.bodies

    deeper : (a b c : ℕ) → a ≡ b + 1 → b ≡ c → a ≡ suc c
    deeper a b c e h = omega (arith, e, h)

    room_within : (l n o : ℕ) → l + (1 + n) ≤ most → o ≡ suc l → o + n ≤ most
    room_within l n o h e = omega (arith, h, e)

    room_one : (l n : ℕ) → l + (1 + n) ≤ most → 1 ≤ most
    room_one l n h = omega (arith, h)

    room_level : (l n o k : ℕ) → l + (1 + n) ≤ most → o ≡ suc l → k ≡ o → k ≤ most
    room_level l n o k h e q = omega (arith, h, e, q)

    procedure_low : (ends : List ℕ) (n : ℕ) (h : Heading) (block : ChecksBlock g.Reported) (ks : List ℕ)
        → FormedBlock g ends block ks → LowsBlock n block → Lows (1 + n) (procedure_checked g elaborates ends h block)
    procedure_low ends n h block ks f lows around seen w d room p =
        let b = entry g elaborates ends h block ks f around seen w in
        let i = inner g elaborates ends h block ks f around seen w in
        let k : Keeps b.0.scope i.0.scope = inside g elaborates ends h block ks f around seen w in
        let l : length b.0.scope.outer ≡ length w.scope.outer + 1 = length-append w.scope.outer _ in
        let rs = lows (which_of b.1.procedure) b.1.returns b.0 (deeper _ _ _ l refl)
        (room_within w.scope.level n (length w.scope.outer) room d)
        (begun_by (w.scope.level == 0) w.bodies p (room_one w.scope.level n room)) in
        with_routine_low i.0.scope h.name around b.1.formals b.1.procedure i.1 i.0.bodies rs
        (room_level w.scope.level n (length w.scope.outer) i.0.scope.level room d k.level)

    module _ (ends : List ℕ) where
      -- ---- declarations keep the level

      abbrev steps_of : Decl → Steps g.Reported
      steps_of = steps g elaborates ends

      abbrev block_of : Block → ChecksBlock g.Reported
      block_of = checks_block g elaborates ends

      abbrev behind : (s : Scope g.Reported) (so_far : Result (Unit {0}) g.Reported) (first : ℕ) (ds : List Decl)
          → Declared g.Reported
      behind s so_far first ds = all_declared marked_by declared_by again_by (s, so_far) first (map steps_of ds)

      behind_level : (s : Scope g.Reported) (so_far : Result (Unit {0}) g.Reported) (first : ℕ) (ds : List Decl)
          → ((behind s so_far first ds).0.outer ≡ s.outer) × ((behind s so_far first ds).0.level ≡ s.level)
      behind_level s so_far first ds =
          let ps = are_steps g elaborates forms ends ds in
          let marks : Scope g.Reported × List ℕ = fold (with_marks marked_by) (s, []) (map steps_of ds) in
          let other : TypedModule = nothing_at marks.0.types.home in
          let one : Leads other nothing_open s marks.0 = all_marks g elaborates ends other nothing_open ps (s, []) in
          let two = all_lead g elaborates ends other nothing_open ps (marks.0, so_far, first)
          (no_home marks.0.types.home) in
          (two.outer ∙ one.outer, two.level ∙ one.level)

      abbrev PD : Decl → Type 0
      PD d = Lows (procedures_decl d) (steps_of d).checks

      abbrev PB : Block → Type 0
      PB b = LowsBlock (procedures_block b) (block_of b)

      abbrev SD : Type 0
      SD = (d : Decl) × PD d

      abbrev SB : Type 0
      SB = (b : Block) × PB b

      room_first : (l a b : ℕ) → l + (a ⊔ b) ≤ most → l + a ≤ most
      room_first l a b h = omega (arith, h)

      room_rest : (l k a b : ℕ) → l + (a ⊔ b) ≤ most → k ≡ l → k + b ≤ most
      room_rest l k a b h e = omega (arith, h, e)

      -- the bodies of some declarations
      bodies_low : (around : Option Which) (seen : List ℕ) (xs : List SD) (st : Walk g.Reported × ℕ) → IsDeep st.0.scope
          → st.0.scope.level + deepest (map procedures_decl (map (λ (x : SD). x.0) xs)) ≤ most → AreLow st.0.bodies
          → AreLow (fold (with_body (λ (x : Steps g.Reported). checked_by x around) seen) st
          (map steps_of (map (λ (x : SD). x.0) xs))).0.bodies
      bodies_low around seen [] st d room p = p
      bodies_low around seen (x ∷ xs) st d room p =
          let n = unwrap_or (slice_get seen st.1) 0 in
          let next = with_body (λ (x : Steps g.Reported). checked_by x around) seen st (steps_of x.0) in
          let k : Keeps st.0.scope next.0.scope =
          step_keeps g elaborates ends around (decls_formed g elaborates forms ends x.0) n st.0 in
          bodies_low around seen xs next (moved_deep st.0.scope next.0.scope k.outer k.level d)
          (room_rest st.0.scope.level next.0.scope.level (procedures_decl x.0) _ room k.level)
          (x.1 around n st.0 d (room_first st.0.scope.level (procedures_decl x.0) _ room) p)

      -- ---- the induction

      abbrev bare : Decl-F SD SB → Decl-F Decl Block
      bare x = map-Decl SD SB Decl Block (λ e. e.0) (λ e. e.0) x

      abbrev bare_block : Block-F SD SB → Block-F Decl Block
      bare_block x = map-Block SD SB Decl Block (λ e. e.0) (λ e. e.0) x

      abbrev opened : Decl-F Decl Block → Decl-F (Steps g.Reported) (ChecksBlock g.Reported)
      opened x = map-Decl Decl Block (Steps g.Reported) (ChecksBlock g.Reported) steps_of block_of x

      abbrev opened_block : Block-F Decl Block → Block-F (Steps g.Reported) (ChecksBlock g.Reported)
      opened_block x = map-Block Decl Block (Steps g.Reported) (ChecksBlock g.Reported) steps_of block_of x

      at : (e : Decl) (x : Decl-F Decl Block) → out-Decl e ≡ x → steps_of e ≡ steps_layer g elaborates ends (opened x)
      unfolding steps checks_block
      at e x h = fold_out-Decl (Steps g.Reported) (ChecksBlock g.Reported) (steps_layer g elaborates ends)
          (block_layer g elaborates ends) e ∙ ap (λ (y : Decl-F Decl Block). steps_layer g elaborates ends (opened y)) h

      at_of : (e : Block) (x : Block-F Decl Block) → out-Block e ≡ x
          → block_of e ≡ block_layer g elaborates ends (opened_block x)
      unfolding steps checks_block
      at_of e x h = fold_out-Block (Steps g.Reported) (ChecksBlock g.Reported) (steps_layer g elaborates ends)
          (block_layer g elaborates ends) e ∙ ap
          (λ (y : Block-F Decl Block). block_layer g elaborates ends (opened_block y)) h

      decl_low : (y : Decl-F SD SB) → Lows (nesting.decl_layer (all_decl (bare y)))
          (steps_layer g elaborates ends (opened (bare y))).checks
      decl_low (layer.Constants cs) around seen w d room p = p
      decl_low (layer.Types ts) around seen w d room p = p
      decl_low (layer.Variables vs) around seen w d room p = p
      decl_low (layer.Procedure h b) around seen w d room p =
          procedure_low ends (procedures_block b.0) h (block_of b.0) (within b.0)
          (blocks_formed g elaborates forms ends b.0) b.1 around seen w d room p

      block_low : (y : Block-F SD SB) → LowsBlock (nesting.block_layer (all_block (bare_block y)))
          (block_layer g elaborates ends (opened_block (bare_block y)))
      block_low y around returns w d room p =
          let ds = map (λ (x : SD). x.0) y.decls in
          let b = behind w.scope w.so_far (length w.bodies.locals) ds in
          let k = behind_level w.scope w.so_far (length w.bodies.locals) ds in
          bodies_low around b.2 y.decls (begun_from b w.bodies, 0) (moved_deep w.scope b.0 k.0 k.1 d)
          (subst (λ (l : ℕ). l + deepest (map procedures_decl ds) ≤ most) (sym k.1) room) p

      step_decl : (x : Decl-F Decl Block) (y : Decl-F SD SB) → bare y ≡ x → PD (roll-Decl x)
      step_decl x y q =
          let e = out-roll-Decl x ∙ sym q in
          subst (λ (n : ℕ). Lows n (steps_of (roll-Decl x)).checks) (sym (at_decl (roll-Decl x) (bare y) e))
          (subst (λ (f : Steps g.Reported). Lows (nesting.decl_layer (all_decl (bare y))) f.checks)
          (sym (at (roll-Decl x) (bare y) e)) (decl_low y))

      step_block : (x : Block-F Decl Block) (y : Block-F SD SB) → bare_block y ≡ x → PB (roll-Block x)
      step_block x y q =
          let e = out-roll-Block x ∙ sym q in
          subst (λ (n : ℕ). LowsBlock n (block_of (roll-Block x))) (sym (at_block (roll-Block x) (bare_block y) e))
          (subst (LowsBlock (nesting.block_layer (all_block (bare_block y))))
          (sym (at_of (roll-Block x) (bare_block y) e)) (block_low y))

      pub decls_low : (d : Decl) → PD d
      decls_low = ind-Decl PD PB step_decl step_block

      -- ---- the bodies of a module

      -- with the level behind them
      written_low : (seen : List ℕ) (ds : List Decl) (st : Walk g.Reported × ℕ) → IsDeep st.0.scope
          → st.0.scope.level + deepest_of procedures_decl ds ≤ most → AreLow st.0.bodies
          → let w = (fold (with_body (λ (d : Decl). checks_decl g elaborates ends d None) seen) st ds).0 in
          AreLow w.bodies × (w.scope.level ≡ st.0.scope.level)
      written_low seen [] st d room p = (p, refl)
      written_low seen (x ∷ xs) st d room p =
          let n = unwrap_or (slice_get seen st.1) 0 in
          let next = with_body (λ (d : Decl). checks_decl g elaborates ends d None) seen st x in
          let k : Keeps st.0.scope next.0.scope =
          step_keeps g elaborates ends None (decls_formed g elaborates forms ends x) n st.0 in
          let r = written_low seen xs next (moved_deep st.0.scope next.0.scope k.outer k.level d)
          (room_rest st.0.scope.level next.0.scope.level (procedures_decl x) _ room k.level)
          (decls_low x None n st.0 d (room_first st.0.scope.level (procedures_decl x) _ room) p) in
          (r.0, r.1 ∙ k.level)

      unfilled_sum : (n : ℕ) → n ≤ 1 → 1 ⊔ n ≤ 1
      unfilled_sum n l = omega (arith, l)

      unfilled_low : (hs : List TypeNo) → deepest_of level_of (map empty_routine hs) ≤ 1
      unfilled_low [] = omega arith
      unfilled_low (h ∷ hs) = unfilled_sum _ (unfilled_low hs)

      begun_low : (n : ℕ) → n ≤ 1 → 1 ≤ most → n ⊔ 0 ≤ most
      begun_low n l k = omega (arith, l, k)

      -- the place at which a module's own block begins
      abbrev IsOutermost : Scope g.Reported → Type 0
      IsOutermost s = (length s.outer ≡ 1) × (s.level ≡ 0)

      module _ (modules : List (List ℕ × ℕ)) (s : Scope g.Reported) (m : Module) (ds : List Decl) where
        abbrev imported : State (Unit {0}) g.Reported
        imported = fold (with_import g modules) (s, Ok tt) m.imports

        begun_outermost : IsOutermost s → IsOutermost (declared_module g modules ends s m ds).0
        begun_outermost p =
            let i : IsOutermost imported.0 = imports_keep g IsOutermost (λ s name k e h. h) modules m.imports (s, Ok tt)
            p in
            let k = behind_level imported.0 imported.1 0 ds in
            subst (λ (d : Declared g.Reported). IsOutermost d.0)
            (sym (declared_is g elaborates forms ends imported 0 ds))
            (ap (λ (bs : List (Around g.Reported)). length bs) k.0 ∙ i.0, k.1 ∙ i.1)

        room_module : (l n : ℕ) → l ≡ 0 → n ≤ most → l + n ≤ most
        room_module l n e h = omega (arith, e, h)

        deep_module : (o l : ℕ) → o ≡ 1 → l ≡ 0 → o ≡ suc l
        deep_module o l e h = omega (arith, e, h)

        module_low : IsOutermost s → 1 ≤ most → deepest_of procedures_decl ds ≤ most
            → let w = bodies_checked g elaborates ends None (begun_module g modules ends s m ds).1
            (begun_module g modules ends s m ds).0 ds in AreLow w.bodies × (w.scope.level ≡ 0)
        module_low p one few =
            let b = begun_module g modules ends s m ds in
            let o : IsOutermost b.0.scope = begun_outermost p in
            let r = written_low b.1 ds (b.0, 0) (deep_module _ _ o.0 o.1) (room_module b.0.scope.level _ o.1 few)
            (begun_low _ (unfilled_low b.0.scope.procedures) one) in
            (r.0, r.1 ∙ o.1)

    -- ---- whole modules

    block_few : (b : Block) → procedures_block b ≡ deepest_of procedures_decl (out-Block b).decls
    block_few b = at_block b (out-Block b) refl ∙ deepest_map procedures_decl (out-Block b).decls

    few_in : (a b : ℕ) → a ≡ b → a ≤ most → b ≤ most
    few_in a b e l = omega (arith, e, l)

    abbrev walk_low : (modules : List (List ℕ × ℕ)) (s : Scope g.Reported) (m : Module) (b : Block) → Type 0
    walk_low modules s m b = let w = (walk_body g elaborates modules (procedure_ends (out-Block b).decls) s m b).0 in
        AreLow w.bodies × (w.scope.level ≡ 0)

    walks_low : (modules : List (List ℕ × ℕ)) (s : Scope g.Reported) (m : Module) (b : Block) → length s.outer ≡ 1
        → s.level ≡ 0 → 1 ≤ most → procedures_block b ≤ most → walk_low modules s m b
    walks_low modules s m b o l one few = module_low (procedure_ends (out-Block b).decls) modules s m
        (out-Block b).decls (o, l) one (few_in _ _ (block_few b) few)

    levels_walk : (modules : List (List ℕ × ℕ)) (s : Scope g.Reported) (own : Option Table) (m : Module) (b : Block)
        → length s.outer ≡ 1 → s.level ≡ 0 → 1 ≤ most → procedures_block b ≤ most
        → AtMost greatest_level most (of_walk g elaborates modules s own m b)
    levels_walk modules s own m b o l one few =
        let c = walk_body g elaborates modules (procedure_ends (out-Block b).decls) s m b in
        then_most (both_most g by_depth (any_most c.0.so_far) (any_most c.1))
        (λ p q. fine (typed_module c.0.scope modules own m c.0.bodies p.1) (walks_low modules s m b o l one few).0)

    levels_implementation : (m : Module) (o : Option Table) (tables : List Table) (b : Block) → 1 ≤ most
        → procedures_block b ≤ most → AtMost greatest_level most (of_implementation g elaborates m o tables b)
    levels_implementation m None tables b one few = broken _
    levels_implementation m (Some own) tables b one few =
        levels_walk _ (implementation_scope own tables) (Some own) m b refl refl one few

    levels_contents : (number : ℕ) (m : Module) (own : Option Table) (tables : List Table) (c : Contents) → 1 ≤ most
        → procedures_contents c ≤ most → AtMost greatest_level most (of_contents g elaborates number m own tables c)
    levels_contents number m own tables (contents.Definition defs) one few = broken _
    levels_contents number m own tables (contents.Implementation b) one few =
        levels_implementation m own tables b one few
    levels_contents number m own tables (contents.Program b) one few =
        levels_walk _ (first_scope number tables) None m b refl refl one few

    pub module_levels : (number : ℕ) (m : Module) (own : Option Table) (tables : List Table) → 1 ≤ most
        → procedures_module m ≤ most → AtMost greatest_level most (body_module g elaborates number m own tables)
    module_levels number m own tables one few = levels_contents number m own _ m.contents one few

    -- ---- how far the bodies go outwards

    module _ (near : (s : Scope g.Reported) (r : Option (Result TypeNo g.Reported)) (xs : List Stmt)
        → AtMost outward_body s.level (elaborates s r xs)) where
      within_level : (a l o m n : ℕ) → (a - l) ⊔ o ≤ 0 → l ⊔ m ≤ most → n ≤ most → a ⊔ n ≤ most
      within_level a l o m n h k j = omega (arith, h, k, j)

      within_rest : (a o : ℕ) → a ⊔ o ≤ 0 → o ≤ 0
      within_rest a o h = omega (arith, h)

      within_levels : (l m : ℕ) → l ⊔ m ≤ most → m ≤ most
      within_levels l m h = omega (arith, h)

      routines_near : (rs : List Routine) → deepest_of beyond_routine rs ≤ 0 → deepest_of level_of rs ≤ most
          → deepest_of outward_routine rs ≤ most
      routines_near [] p q = q
      routines_near (r ∷ rs) p q = within_level (outward_routine r) r.level _ _ _ p q
          (routines_near rs (within_rest _ _ p) (within_levels r.level _ q))

      first_of : (a b n : ℕ) → a ⊔ b ≤ n → a ≤ n
      first_of a b n h = omega (arith, h)

      second_of : (a b n : ℕ) → a ⊔ b ≤ n → b ≤ n
      second_of a b n h = omega (arith, h)

      all_near : (a b c : ℕ) → a ≤ most → b ≤ most → c ≤ 0 → a ⊔ b ⊔ c ≤ most
      all_near a b c h k l = omega (arith, h, k, l)

      body_none : (n k : ℕ) → 0 ⊔ n ≤ 0 ⊔ k → k ≡ 0 → n ≤ 0
      body_none n k h e = omega (arith, h, e)

      near_walk : (modules : List (List ℕ × ℕ)) (s : Scope g.Reported) (own : Option Table) (m : Module) (b : Block)
          → length s.outer ≡ 1 → s.level ≡ 0 → 1 ≤ most → procedures_block b ≤ most
          → AtMost outward_bodies most (of_walk g elaborates modules s own m b)
      near_walk modules s own m b o l one few =
          let ends = procedure_ends (out-Block b).decls in
          let c = walk_body g elaborates modules ends s m b in
          let low = walks_low modules s m b o l one few in
          let beyond = walked_near g elaborates near ends modules s m (out-Block b).decls in
          let firsts = routines_near c.0.bodies.procedures (first_of _ _ 0 beyond) (first_of _ _ most low.0) in
          let seconds = routines_near c.0.bodies.locals (second_of _ _ 0 beyond) (second_of _ _ most low.0) in
          then_most (both_most g by_depth (any_most c.0.so_far)
          (body_near g elaborates near c.0.scope None (out-Block b).body))
          (λ p q. fine (typed_module c.0.scope modules own m c.0.bodies p.1)
          (all_near _ _ _ firsts seconds (body_none (outward_body p.1) c.0.scope.level q low.1)))

      near_implementation : (m : Module) (o : Option Table) (tables : List Table) (b : Block) → 1 ≤ most
          → procedures_block b ≤ most → AtMost outward_bodies most (of_implementation g elaborates m o tables b)
      near_implementation m None tables b one few = broken _
      near_implementation m (Some own) tables b one few =
          near_walk _ (implementation_scope own tables) (Some own) m b refl refl one few

      near_contents : (number : ℕ) (m : Module) (own : Option Table) (tables : List Table) (c : Contents) → 1 ≤ most
          → procedures_contents c ≤ most → AtMost outward_bodies most (of_contents g elaborates number m own tables c)
      near_contents number m own tables (contents.Definition defs) one few = broken _
      near_contents number m own tables (contents.Implementation b) one few = near_implementation m own tables b one few
      near_contents number m own tables (contents.Program b) one few =
          near_walk _ (first_scope number tables) None m b refl refl one few

      pub bodies_near : (number : ℕ) (m : Module) (own : Option Table) (tables : List Table) → 1 ≤ most
          → procedures_module m ≤ most → AtMost outward_bodies most (body_module g elaborates number m own tables)
      bodies_near number m own tables one few = near_contents number m own _ m.contents one few

-- ---- the laws

one_or_more : (n : ℕ) → 1 ≤ 1 ⊔ n
one_or_more n = omega arith

more_or_one : (n : ℕ) → n ≤ 1 ⊔ n
more_or_one n = omega arith

pub levels_low : (g : Gathers) (elaborates : Elaborates g.Reported) → FormsStatements g elaborates
    → (number : ℕ) (m : Module) (own : Option Table) (tables : List Table)
    → AtMost greatest_level (1 ⊔ procedures_module m) (body_module g elaborates number m own tables)
levels_low g elaborates forms number m own tables =
    module_levels (1 ⊔ procedures_module m) g elaborates forms number m own tables (one_or_more (procedures_module m))
    (more_or_one (procedures_module m))
