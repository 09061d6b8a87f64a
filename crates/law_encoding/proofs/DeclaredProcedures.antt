-- Each procedure of a module is declared in its text.
use Rattle.std.proofs.Common.{◌≡◌, ℕ, zero, suc, ◌+◌, ◌≤◌, ◌==◌, Bool, true, false, ◌||◌, cond, List, [], ◌∷◌, ◌++◌, map, length, Option, Some, None, Result, Ok, Err, refl, sym, ap, subst, ◌∙◌, arith}
use Rattle.std.specs.Prelude.{All, slice_get, slice_set}
use Rattle.std.specs.List.{fold, AllByRecursion}
use Rattle.std.specs.Option.{unwrap_or}
use Rattle.std.proofs.lemmas.List.Elements.{All-head, All-tail}
use Rattle.m2_rule.specs.declared.rule.Rule.TheVariants as rule
use Rattle.m2_tree.specs.declared.pos.Pos.{Pos}
use Rattle.m2_tree.specs.declared.name.Ident.{Ident}
use Rattle.m2_tree.specs.declared.decl.Heading.{Heading}
use Rattle.m2_tree.specs.declared.decl.Decl.{Decl, Decl-F, out-Decl, roll-Decl, out-roll-Decl, map-Decl, fold_out-Decl, ind-Decl}
use Rattle.m2_tree.specs.declared.decl.Decl.TheOpen as layer
use Rattle.m2_tree.specs.declared.decl.Block.{Block, Block-F, out-Block, roll-Block, out-roll-Block, map-Block, fold_out-Block}
use Rattle.m2_tree.specs.declared.decl.Contents.{Contents}
use Rattle.m2_tree.specs.declared.decl.Contents.TheVariants as contents
use Rattle.m2_tree.specs.declared.decl.Module.{Module}
use Rattle.m2_tree.specs.Names.{same_name}
use Rattle.wasm_tree.specs.Validity.{AreDistinct}
use Rattle.typed_tree.specs.declared.meaning.Meaning.{Meaning}
use Rattle.typed_tree.specs.declared.meaning.Meaning.TheVariants as meaning
use Rattle.typed_tree.specs.declared.statement.TypedStmt.{TypedStmt}
use Rattle.typed_tree.specs.declared.table.Table.{Table}
use Rattle.typed_tree.specs.declared.types.TypeNo.{TypeNo}
use Rattle.typed_tree.specs.declared.typed_module.Routine.{Routine}
use Rattle.typed_tree.specs.declared.typed_module.Which.{Which}
use Rattle.typed_tree.specs.declared.typed_module.Which.TheVariants as which
use Rattle.typed_tree.specs.declared.typed_module.TypedModule.{TypedModule}
use Rattle.typed_tree.specs.Names.{find_name, enter_name}
use Rattle.check_scope.specs.Elaborated.{Gathers, reported_where, both, ◌▷◌}
use Rattle.check_scope.specs.Scopes.{State}
use Rattle.check_scope.specs.declared.known.Known.{Known}
use Rattle.check_scope.specs.declared.known.Known.TheVariants.{Declared}
use Rattle.check_scope.specs.declared.known.Origin.TheVariants.{Here}
use Rattle.check_scope.specs.declared.scope.Scope.{Scope}
use Rattle.check_definition.specs.Importing.{with_import}
use Rattle.check_definition.specs.Predeclared.{console, first_scope}
use Rattle.check_block.specs.Declarations.{Course, Declared as Behind, or_awaited, lacks, reported_of_lack, with_decl, declared_block, declared_module, all_declared}
use Rattle.check_block.specs.declared.heading.Standing.{Standing}
use Rattle.check_block.specs.Headings.{standing_of, standing_known}
use Rattle.check_block.specs.Naming.{marked_decl, with_marks}
use Rattle.check_block.specs.Nesting.{procedure_ends}
use Rattle.check_body.specs.Own.{with_own_name, with_heading_of, with_exported_heading, implementation_scope}
use Rattle.check_body.specs.declared.routine.Bodies.{Bodies}
use Rattle.check_body.specs.declared.routine.Numbered.{Numbered}
use Rattle.check_body.specs.Routines.{empty_routine, put_routine, routine, typed_module}
use Rattle.check_body.specs.declared.procedure.Walk.{Walk}
use Rattle.check_body.specs.Elaborating.{Elaborates}
use Rattle.check_body.specs.Inside.{which_of, begun_procedure, with_routine}
use Rattle.check_body.specs.Bodies.{Steps, Checks, ChecksBlock, marked_by, declared_by, again_by, checked_by, begun_from, with_body, procedure_checked, steps_layer, block_layer, steps, checks_block, checks_decl, bodies_checked}
use Rattle.check_body.specs.Checked.{begun_module, walk_body, of_walk, of_implementation, of_contents, body_module}
use Rattle.law_well_formed.specs.FormedBodies.{FormsStatements}
use Rattle.law_well_formed.specs.FormedScopes.{is_awaiting}
use Rattle.law_well_formed.proofs.ImportsLists.{same_is}
use Rattle.law_well_formed.proofs.HeadingsLists.{found_other}
use Rattle.law_well_formed.proofs.ScopesDeclarations.{beside_right}
use Rattle.law_well_formed.proofs.BodiesBlocks.{step_reported}
use Rattle.law_well_formed.proofs.Induction.{decls_formed}
use Rattle.law_encoding.specs.Counted.{AtMost, fine, broken}
use Rattle.law_encoding.specs.Sizes.{sum_of}
use Rattle.law_encoding.specs.DeclaredProcedures.{headings_of, declared_headings, outermost_in, ExportsOnce, procedures_of}
use Rattle.law_encoding.proofs.Sums.{sum_append}
use Rattle.law_encoding.proofs.DistinctImports.{Differ}
use Rattle.law_encoding.proofs.KeptImports.{imports_keep}
use Rattle.law_encoding.proofs.Awaited.{Names, standing_weight, awaiting, Fills, Stays, no_weight, stays_refl, stays_then, fills_then, known_stays, free_unawaited}
use Rattle.law_encoding.proofs.AwaitedDeclarations.{count_of, DeclFits, all_counts, AllFit, decls_fill, marks_stay}

-- ---- a module keeps its procedures while their bodies are checked

length_set : (rs : List Routine) (n : ℕ) (r : Routine) → length (slice_set rs n r) ≡ length rs
length_set [] n r = refl
length_set (x ∷ rs) zero r = refl
length_set (x ∷ rs) (suc n) r = ap suc (length_set rs n r)

filled_same : (rs : Bodies) (w : Which) (r : Routine) → length (put_routine rs w r).procedures ≡ length rs.procedures
filled_same rs (which.Module k) r = length_set rs.procedures k r
filled_same rs (which.Local k) r = refl

begun_same : (b : Bool) (rs more : Bodies) → more.procedures ≡ rs.procedures
    → length (cond b rs more).procedures ≡ length rs.procedures
begun_same true rs more e = refl
begun_same false rs more e = ap (λ (ps : List Routine). length ps) e

module _ (g : Gathers) (elaborates : Elaborates g.Reported) where
  with_routine_same : (s : Scope g.Reported) (name : Ident) (around : Option Which) (formals : ℕ) (o : Option Numbered)
      (body : Result (List TypedStmt) g.Reported) (rs : Bodies)
      → length (with_routine s name around formals o body rs).procedures ≡ length rs.procedures
  with_routine_same s name around formals None body rs = refl
  with_routine_same s name around formals (Some k) (Ok xs) rs =
      filled_same rs k.which (routine s name k around formals xs)
  with_routine_same s name around formals (Some k) (Err e) rs = refl

  abbrev count : Walk g.Reported → ℕ
  count w = length w.bodies.procedures

  abbrev Same : Checks g.Reported → Type 0
  Same f = (around : Option Which) (seen : ℕ) (w : Walk g.Reported) → count (f around seen w) ≡ count w

  abbrev SameBlock : ChecksBlock g.Reported → Type 0
  SameBlock f = (around : Option Which) (returns : Option (Result TypeNo g.Reported)) (w : Walk g.Reported)
      → count (f around returns w).0 ≡ count w

  procedure_same : (ends : List ℕ) (h : Heading) (block : ChecksBlock g.Reported) → SameBlock block
      → Same (procedure_checked g elaborates ends h block)
  procedure_same ends h block same around seen w =
      let b = begun_procedure g w seen h in
      let i = block (which_of b.1.procedure) b.1.returns b.0 in
      with_routine_same i.0.scope h.name around b.1.formals b.1.procedure i.1 i.0.bodies
      ∙ (same (which_of b.1.procedure) b.1.returns b.0 ∙ begun_same (w.scope.level == 0) w.bodies _ refl)

  module _ (ends : List ℕ) where
    abbrev steps_of : Decl → Steps g.Reported
    steps_of = steps g elaborates ends

    abbrev block_of : Block → ChecksBlock g.Reported
    block_of = checks_block g elaborates ends

    abbrev PD : Decl → Type 0
    PD d = Same (steps_of d).checks

    abbrev PB : Block → Type 0
    PB b = SameBlock (block_of b)

    abbrev SD : Type 0
    SD = (d : Decl) × PD d

    abbrev SB : Type 0
    SB = (b : Block) × PB b

    abbrev bare : Decl-F SD SB → Decl-F Decl Block
    bare x = map-Decl SD SB Decl Block (λ e. e.0) (λ e. e.0) x

    abbrev bare_block : Block-F SD SB → Block-F Decl Block
    bare_block x = map-Block SD SB Decl Block (λ e. e.0) (λ e. e.0) x

    abbrev opened : Decl-F Decl Block → Decl-F (Steps g.Reported) (ChecksBlock g.Reported)
    opened x = map-Decl Decl Block (Steps g.Reported) (ChecksBlock g.Reported) steps_of block_of x

    abbrev opened_block : Block-F Decl Block → Block-F (Steps g.Reported) (ChecksBlock g.Reported)
    opened_block x = map-Block Decl Block (Steps g.Reported) (ChecksBlock g.Reported) steps_of block_of x

    at : (e : Decl) (x : Decl-F Decl Block) → out-Decl e ≡ x → steps_of e ≡ steps_layer g elaborates ends (opened x)
    unfolding steps checks_block
    at e x h = fold_out-Decl (Steps g.Reported) (ChecksBlock g.Reported) (steps_layer g elaborates ends)
        (block_layer g elaborates ends) e ∙ ap (λ (y : Decl-F Decl Block). steps_layer g elaborates ends (opened y)) h

    at_block : (e : Block) (x : Block-F Decl Block) → out-Block e ≡ x
        → block_of e ≡ block_layer g elaborates ends (opened_block x)
    unfolding steps checks_block
    at_block e x h = fold_out-Block (Steps g.Reported) (ChecksBlock g.Reported) (steps_layer g elaborates ends)
        (block_layer g elaborates ends) e ∙ ap
        (λ (y : Block-F Decl Block). block_layer g elaborates ends (opened_block y)) h

    bodies_same : (around : Option Which) (seen : List ℕ) (xs : List SD) (st : Walk g.Reported × ℕ)
        → count (fold (with_body (λ (x : Steps g.Reported). checked_by x around) seen) st
        (map steps_of (map (λ (x : SD). x.0) xs))).0 ≡ count st.0
    bodies_same around seen [] st = refl
    bodies_same around seen (x ∷ xs) st = bodies_same around seen xs
        (with_body (λ (x : Steps g.Reported). checked_by x around) seen st (steps_of x.0))
        ∙ x.1 around (unwrap_or (slice_get seen st.1) 0) st.0

    decl_same : (y : Decl-F SD SB) → Same (steps_layer g elaborates ends (opened (bare y))).checks
    decl_same (layer.Constants cs) around seen w = refl
    decl_same (layer.Types ts) around seen w = refl
    decl_same (layer.Variables vs) around seen w = refl
    decl_same (layer.Procedure h b) around seen w = procedure_same ends h (block_of b.0) b.1 around seen w

    block_same : (y : Block-F SD SB) → SameBlock (block_layer g elaborates ends (opened_block (bare_block y)))
    block_same y around returns w =
        let ds = map steps_of (map (λ (x : SD). x.0) y.decls) in
        let d = all_declared marked_by declared_by again_by (w.scope, w.so_far) (length w.bodies.locals) ds in
        bodies_same around d.2 y.decls (begun_from d w.bodies, 0)

    step_decl : (x : Decl-F Decl Block) (y : Decl-F SD SB) → bare y ≡ x → PD (roll-Decl x)
    step_decl x y q = subst (λ (f : Steps g.Reported). Same f.checks)
        (sym (at (roll-Decl x) (bare y) (out-roll-Decl x ∙ sym q))) (decl_same y)

    step_block : (x : Block-F Decl Block) (y : Block-F SD SB) → bare_block y ≡ x → PB (roll-Block x)
    step_block x y q = subst SameBlock (sym (at_block (roll-Block x) (bare_block y) (out-roll-Block x ∙ sym q)))
        (block_same y)

    decls_same : (d : Decl) → PD d
    decls_same = ind-Decl PD PB step_decl step_block

    written_same : (seen : List ℕ) (ds : List Decl) (st : Walk g.Reported × ℕ)
        → count (fold (with_body (λ (d : Decl). checks_decl g elaborates ends d None) seen) st ds).0 ≡ count st.0
    written_same seen [] st = refl
    written_same seen (d ∷ ds) st = written_same seen ds
        (with_body (λ (d : Decl). checks_decl g elaborates ends d None) seen st d)
        ∙ decls_same d None (unwrap_or (slice_get seen st.1) 0) st.0

    -- what was reported before is reported behind the bodies
    module _ (forms : FormsStatements g elaborates) where
      written_reported : (seen : List ℕ) (ds : List Decl) (st : Walk g.Reported × ℕ)
          → (fold (with_body (λ (d : Decl). checks_decl g elaborates ends d None) seen) st ds).0.so_far ≡ Ok tt
          → st.0.so_far ≡ Ok tt
      written_reported seen [] st e = e
      written_reported seen (d ∷ ds) st e =
          step_reported g elaborates ends None (decls_formed g elaborates forms ends d)
          (unwrap_or (slice_get seen st.1) 0) st.0
          (written_reported seen ds (with_body (λ (d : Decl). checks_decl g elaborates ends d None) seen st d) e)

-- ---- no procedure is awaited at the end

or_none : (a b : Bool) → (a || b) ≡ false → (a ≡ false) × (b ≡ false)
or_none true b e = absurd cc
or_none false b e = (refl, e)

lack_by : (g : Gathers) (b : Bool) (at : Pos)
    → reported_where g {A = Unit {0}} b at rule.MissingProcedure (Ok tt) ≡ Ok tt → b ≡ false
lack_by g true at e = absurd cc
lack_by g false at e = refl

none_sum : (a b : ℕ) → a ≤ 0 → b ≤ 0 → a + b ≤ 0
none_sum a b e f = omega (arith, e, f)

nothing_in : (n : ℕ) → 0 ≤ n
nothing_in n = omega arith

module _ (weight : TypeNo → ℕ) where
  none_left : {T : Type 0} (so : Bool) (es : Names T) → fold or_awaited so es ≡ false → (so ≡ false)
      × (awaiting weight es ≤ 0)
  none_left so [] e = (e, nothing_in 0)
  none_left so (x ∷ es) e =
      let r = none_left (so || is_awaiting x.1) es e in
      let o = or_none so (is_awaiting x.1) r.0 in (
        o.0,
        none_sum (standing_weight weight (standing_known x.1)) (awaiting weight es)
            (no_weight weight (standing_known x.1) o.1) r.1,
      )

-- ---- the procedures of a definition are awaited

new_here : (n : ℕ) → 0 + n ≤ n + 0
new_here n = omega arith

new_behind : (a n k m : ℕ) → n + m ≤ k → a + n + m ≤ a + k
new_behind a n k m h = omega (arith, h)

other_by : (a b : List ℕ) (c : Bool) → same_name a b ≡ c → (b ≡ a → ⊥) → c ≡ false
other_by a b true e d = absurd (d (sym (same_is a b e)))
other_by a b false e d = refl

other_name : (a b : List ℕ) → (b ≡ a → ⊥) → same_name a b ≡ false
other_name a b d = other_by a b (same_name a b) refl d

no_more : (n : ℕ) → n ≤ n + 0
no_more n = omega arith

one_more : (a b n : ℕ) → b ≡ a + (n + 0) → b ≤ a + n
one_more a b n e = omega (arith, e)

abbrev AreNew : {T : Type 0} → Names T → List (List ℕ × Meaning) → Type 0
AreNew ns es = AllByRecursion (λ e. find_name e.0 ns ≡ None) es

still_new : {T : Type 0} (ns : Names T) (name : List ℕ) (k : Known T) (es : List (List ℕ × Meaning))
    → AllByRecursion (λ y. name ≡ y → ⊥) (map (λ (e : List ℕ × Meaning). e.0) es) → AreNew ns es
    → AreNew (enter_name name k ns) es
still_new ns name k [] d n = tt
still_new ns name k (e ∷ es) d n = (
  found_other name k ns e.0 (other_name e.0 name d.0)
      ∙ n.0,
  still_new ns name k es d.1 n.1,
)

awaits_sum : (a b c d e : ℕ) → a ≤ b → c ≤ a + d → b + d ≤ e → c ≤ e
awaits_sum a b c d e h i j = omega (arith, h, i, j)

module _ (weight : TypeNo → ℕ) where
  abbrev of_standing : Standing → ℕ
  of_standing o = standing_weight weight o

  abbrev of_known : {T : Type 0} → Known T → ℕ
  of_known k = of_standing (standing_known k)

  new_by : {T : Type 0} (b : Bool) (k : Known T) (e : List ℕ × Known T) (es more : Names T) (o : Option (Known T))
      → cond b (Some e.1) o ≡ None → (o ≡ None → awaiting weight es + of_known k ≤ awaiting weight more)
      → awaiting weight (e ∷ es) + of_known k ≤ awaiting weight (cond b ((e.0, k) ∷ es) (e ∷ more))
  new_by true k e es more o h i = absurd cc
  new_by false k e es more o h i = new_behind (of_known e.1) (awaiting weight es) (awaiting weight more) (of_known k)
      (i h)

  new_awaits : {T : Type 0} (name : List ℕ) (k : Known T) (es : Names T) → find_name name es ≡ None
      → awaiting weight es + of_known k ≤ awaiting weight (enter_name name k es)
  new_awaits name k [] h = new_here (of_known k)
  new_awaits name k (e ∷ es) h = new_by (same_name name e.0) k e es (enter_name name k es) (find_name name es) h
      (new_awaits name k es)

  heading_awaits : (ts : List TypeNo) (m : Meaning)
      → sum_of weight (with_heading_of ts m) ≤ sum_of weight ts + of_standing (standing_of m)
  heading_awaits ts (meaning.Procedure p) =
      one_more (sum_of weight ts) _ (weight p.heading) (sum_append weight ts (p.heading ∷ []))
  heading_awaits ts (meaning.Constant v) = no_more (sum_of weight ts)
  heading_awaits ts (meaning.Type t n) = no_more (sum_of weight ts)
  heading_awaits ts (meaning.Variable v) = no_more (sum_of weight ts)
  heading_awaits ts (meaning.Local v) = no_more (sum_of weight ts)
  heading_awaits ts (meaning.Field f) = no_more (sum_of weight ts)
  heading_awaits ts (meaning.LocalProcedure p) = no_more (sum_of weight ts)
  heading_awaits ts meaning.Ahead = no_more (sum_of weight ts)
  heading_awaits ts (meaning.Standard f) = no_more (sum_of weight ts)
  heading_awaits ts (meaning.Module k) = no_more (sum_of weight ts)

  exports_await : {T : Type 0} (es : List (List ℕ × Meaning)) (ts : List TypeNo) (ns : Names T)
      → Differ (map (λ (e : List ℕ × Meaning). e.0) es) → AreNew ns es → sum_of weight ts ≤ awaiting weight ns
      → sum_of weight (fold with_exported_heading ts es) ≤ awaiting weight (fold with_own_name ns es)
  exports_await [] ts ns d n h = h
  exports_await (e ∷ es) ts ns d n h =
      exports_await es (with_exported_heading ts e) (with_own_name ns e) d.1
      (still_new ns e.0 (Declared Here (Ok e.1)) es d.0 n.1)
      (awaits_sum (sum_of weight ts) (awaiting weight ns) _ (of_standing (standing_of e.1)) _ h (heading_awaits ts e.1)
      (new_awaits e.0 (Declared Here (Ok e.1)) ns n.0))

all_new : (T : Type 0) (es : List (List ℕ × Meaning)) → AreNew {T = T} [] es
all_new T [] = tt
all_new T (e ∷ es) = (refl, all_new T es)

by_recursion : {A : Type 0} (P : A → Type 0) (xs : List A) → All P xs → AllByRecursion P xs
by_recursion P [] all = tt
by_recursion P (x ∷ xs) all = (All-head P x xs all, by_recursion P xs (All-tail P x xs all))

distinct_differ : (xs : List (List ℕ)) → AreDistinct xs → Differ xs
distinct_differ [] d = tt
distinct_differ (x ∷ xs) d = (by_recursion (λ y. x ≡ y → ⊥) xs d.0, distinct_differ xs d.1)

-- an implementation awaits the procedures of its definition
module _ (weight : TypeNo → ℕ) where
  abbrev pub AwaitsAll : {T : Type 0} → Scope T → Type 0
  AwaitsAll s = sum_of weight s.procedures ≤ awaiting weight s.own

  pub own_awaits : (T : Type 0) (own : Table) (tables : List Table) → ExportsOnce (Some own)
      → AwaitsAll {T = T} (implementation_scope own tables)
  own_awaits T own tables once = exports_await weight {T = T} own.exported [] []
      (distinct_differ (map (λ (e : List ℕ × Meaning). e.0) own.exported) once) (all_new T own.exported) (omega arith)

-- ---- the block of a module

end_sum : (d a n p w : ℕ) → d + a ≤ 0 + (0 + n) + p + w → p ≤ a → w ≤ 0 → d ≤ n
end_sum d a n p w h i e = omega (arith, h, i, e)

module _ (weight : TypeNo → ℕ) (count : Heading → ℕ) (g : Gathers) (modules : List (List ℕ × ℕ)) (s : Scope g.Reported)
    (m : Module) (ds : List Decl) where
  abbrev ends : List ℕ
  ends = procedure_ends ds

  abbrev imported : State (Unit {0}) g.Reported
  imported = fold (with_import g modules) (s, Ok tt) m.imports

  imports_stay : Stays weight s imported.0
  imports_stay = imports_keep g (λ z. Stays weight s z)
      (λ z name k e h. stays_then h (known_stays z name k (free_unawaited (find_name name z.own) e))) modules m.imports
      (s, Ok tt) (stays_refl s)

  abbrev marks : Scope g.Reported × List ℕ
  marks = fold (with_marks marked_decl) (imported.0, []) ds

  abbrev pub HeadingsFit : Type 0
  HeadingsFit = AllFit weight g count ends (marks.0, imported.1, 0) ds

  block_fills : HeadingsFit → Fills weight (0 + (0 + all_counts count ds)) s (declared_module g modules ends s m ds).0
  block_fills fits = fills_then imports_stay
      (fills_then (marks_stay weight g ds (imported.0, []))
      (decls_fill weight g count ends ds (marks.0, imported.1, 0) fits))

  abbrev block : Behind g.Reported
  block = declared_block g ends imported 0 ds

  abbrev begun : Walk g.Reported × List ℕ
  begun = begun_module g modules ends s m ds

  none_awaited_yet : begun.0.so_far ≡ Ok tt → awaiting weight begun.0.scope.own ≤ 0
  none_awaited_yet e =
      (none_left weight false begun.0.scope.own
      (lack_by g (lacks block.0.own) m.name.pos (beside_right g block.1 (reported_of_lack g m.name.pos block.0) e))).1

  -- all its procedures are declared in it
  pub headings_few : HeadingsFit → AwaitsAll weight s → begun.0.so_far ≡ Ok tt
      → sum_of weight begun.0.scope.procedures ≤ all_counts count ds
  headings_few fits start e =
      end_sum (sum_of weight begun.0.scope.procedures) (awaiting weight s.own) (all_counts count ds)
      (sum_of weight s.procedures) (awaiting weight begun.0.scope.own)
      (block_fills fits).most start (none_awaited_yet e)

-- ---- whole modules

-- each procedure counts one
abbrev one : TypeNo → ℕ
one t = 1

abbrev one_heading : Heading → ℕ
one_heading h = 1

next_count : (a b : ℕ) → a ≡ b → 1 + a ≡ suc b
next_count a b e = omega (arith, e)

count_one : (hs : List TypeNo) → sum_of one hs ≡ length hs
count_one [] = refl
count_one (h ∷ hs) = next_count (sum_of one hs) (length hs) (count_one hs)

count_map : (hs : List TypeNo) → length (map empty_routine hs) ≡ length hs
count_map [] = refl
count_map (h ∷ hs) = ap suc (count_map hs)

one_fits : (n : ℕ) → n ≡ 1 → n ≤ 1
one_fits n e = omega (arith, e)

few_sum : (n d r a b : ℕ) → a ≤ b → a ≡ d → r ≡ d → b ≡ n → r ≤ n
few_sum n d r a b h e f k = omega (arith, h, e, f, k)

one_count : {A B : Type 0} (y : Decl-F A B) → count_of one_heading y ≡ headings_of y
one_count (layer.Constants cs) = refl
one_count (layer.Types ts) = refl
one_count (layer.Variables vs) = refl
one_count (layer.Procedure h b) = refl

pair_sum : {a b c e : ℕ} → a ≡ b → c ≡ e → a + c ≡ b + e
pair_sum h k = omega (arith, h, k)

all_one : (ds : List Decl) → all_counts one_heading ds ≡ declared_headings ds
all_one [] = refl
all_one (d ∷ ds) = pair_sum (one_count (out-Decl d)) (all_one ds)

module _ (g : Gathers) where
  decl_fits : {A B : Type 0} (ns : Names g.Reported) (y : Decl-F A B) → DeclFits one g one_heading ns y
  decl_fits ns (layer.Constants cs) = tt
  decl_fits ns (layer.Types ts) = tt
  decl_fits ns (layer.Variables vs) = tt
  decl_fits ns (layer.Procedure h b) = λ m t e k. one_fits 1 refl

  all_fit : (es : List ℕ) (ds : List Decl) (c : Course g.Reported) → AllFit one g one_heading es c ds
  all_fit es [] c = tt
  all_fit es (d ∷ ds) c = (decl_fits (with_decl g es c d).0.own (out-Decl d), all_fit es ds (with_decl g es c d))

module _ (g : Gathers) (elaborates : Elaborates g.Reported) (forms : FormsStatements g elaborates) where
  both_few : (n : ℕ) (a : Result (Unit {0}) g.Reported) (r : Result (List TypedStmt) g.Reported)
      (f : List TypedStmt → TypedModule) → ((ys : List TypedStmt) → a ≡ Ok tt → procedures_of (f ys) ≤ n)
      → AtMost procedures_of n (both g a r ▷ λ p. Ok (f p.1))
  both_few n (Ok u) (Ok ys) f k = fine (f ys) (k ys refl)
  both_few n (Ok u) (Err e) f k = broken e
  both_few n (Err e) (Ok ys) f k = broken e
  both_few n (Err e) (Err x) f k = broken (g.join e x)

  module _ (modules : List (List ℕ × ℕ)) (s : Scope g.Reported) (m : Module) (ds : List Decl) (start : AwaitsAll one s)
    where
      abbrev begins : Walk g.Reported × List ℕ
      begins = begun_module g modules (procedure_ends ds) s m ds

      abbrev behind : Walk g.Reported
      behind = bodies_checked g elaborates (procedure_ends ds) None begins.1 begins.0 ds

      bodies_few : behind.so_far ≡ Ok tt → length behind.bodies.procedures ≤ declared_headings ds
      bodies_few e =
          few_sum (declared_headings ds) (length begins.0.scope.procedures) _ _ _
          (headings_few one one_heading g modules s m ds (all_fit g (procedure_ends ds) ds _) start
          (written_reported g elaborates (procedure_ends ds) forms begins.1 ds (begins.0, 0) e))
          (count_one begins.0.scope.procedures)
          (written_same g elaborates (procedure_ends ds) begins.1 ds (begins.0, 0)
          ∙ count_map begins.0.scope.procedures) (all_one ds)

  walk_few : (modules : List (List ℕ × ℕ)) (s : Scope g.Reported) (own : Option Table) (m : Module) (b : Block)
      → AwaitsAll one s → AtMost procedures_of (declared_headings (out-Block b).decls)
      (of_walk g elaborates modules s own m b)
  walk_few modules s own m b start =
      let c = walk_body g elaborates modules (procedure_ends (out-Block b).decls) s m b in
      both_few (declared_headings (out-Block b).decls) c.0.so_far c.1
      (λ ys. typed_module c.0.scope modules own m c.0.bodies ys)
      (λ ys e. bodies_few modules s m (out-Block b).decls start e)

  implementation_few : (m : Module) (o : Option Table) (tables : List Table) (b : Block) → ExportsOnce o
      → AtMost procedures_of (declared_headings (out-Block b).decls) (of_implementation g elaborates m o tables b)
  implementation_few m None tables b once = broken _
  implementation_few m (Some own) tables b once =
      walk_few _ (implementation_scope own tables) (Some own) m b (own_awaits one g.Reported own tables once)

  contents_few : (number : ℕ) (m : Module) (own : Option Table) (tables : List Table) (c : Contents) → ExportsOnce own
      → AtMost procedures_of (outermost_in c) (of_contents g elaborates number m own tables c)
  contents_few number m own tables (contents.Definition defs) once = broken _
  contents_few number m own tables (contents.Implementation b) once = implementation_few m own tables b once
  contents_few number m own tables (contents.Program b) once =
      walk_few _ (first_scope number tables) None m b (nothing_in _)

  pub procedures_declared : (number : ℕ) (m : Module) (own : Option Table) (tables : List Table) → ExportsOnce own
      → AtMost procedures_of (outermost_in m.contents) (body_module g elaborates number m own tables)
  procedures_declared number m own tables once = contents_few number m own (tables ++ console ∷ []) m.contents once
