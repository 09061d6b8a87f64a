-- The procedures of a module with their formals and bodies count no more than the declarations that they stand in, by
-- induction over blocks.
use Rattle.std.proofs.Common.{map, ◌≡◌, ℕ, zero, suc, ◌+◌, ◌*◌, ◌≤◌, Bool, true, false, List, [], ◌∷◌, ◌++◌, length, Option, Some, None, Result, Ok, Err, refl, sym, ap, subst, ◌∙◌, arith}
use Rattle.std.specs.Prelude.{cond, slice_get, slice_set, ◌==◌}
use Rattle.std.specs.List.{fold}
use Rattle.std.specs.Option.{unwrap_or}
use Rattle.m2_tree.specs.declared.name.Ident.{Ident}
use Rattle.m2_tree.specs.declared.stmt.Stmt.{Stmt}
use Rattle.m2_tree.specs.declared.decl.Heading.{Heading}
use Rattle.m2_tree.specs.declared.decl.Section.{Section}
use Rattle.m2_tree.specs.declared.decl.Decl.{Decl, Decl-F, out-Decl, roll-Decl, out-roll-Decl, map-Decl, fold_out-Decl}
use Rattle.m2_tree.specs.declared.decl.Decl.TheOpen as layer
use Rattle.m2_tree.specs.declared.decl.Block.{Block, Block-F, out-Block, roll-Block, out-roll-Block, map-Block, fold_out-Block, ind-Block}
use Rattle.typed_tree.specs.declared.known_types.Types.{Types}
use Rattle.typed_tree.specs.declared.meaning.Meaning.{Meaning}
use Rattle.typed_tree.specs.declared.meaning.Meaning.TheVariants as meaning
use Rattle.typed_tree.specs.declared.statement.TypedStmt.{TypedStmt}
use Rattle.typed_tree.specs.declared.types.TypeNo.{TypeNo}
use Rattle.typed_tree.specs.declared.typed_module.Routine.{Routine}
use Rattle.typed_tree.specs.declared.typed_module.TypedModule.{TypedModule}
use Rattle.typed_tree.specs.declared.typed_module.Which.{Which}
use Rattle.typed_tree.specs.declared.typed_module.Which.TheVariants as which
use Rattle.typed_tree.specs.Names.{find_name}
use Rattle.typed_tree.specs.Types.{integer}
use Rattle.check_scope.specs.declared.known.Known.{Known}
use Rattle.check_scope.specs.declared.known.Known.TheVariants.{Later, Ahead, Begun, Headed, Declared}
use Rattle.check_scope.specs.declared.scope.Scope.{Scope}
use Rattle.check_scope.specs.Elaborated.{Gathers}
use Rattle.check_scope.specs.declared.meaningless.Meaningless.{Meaningless}
use Rattle.check_block.specs.Naming.{with_marks}
use Rattle.check_block.specs.Nesting.{within}
use Rattle.check_block.specs.Declarations.{Declared as Behind, all_declared, declared_block}
use Rattle.check_body.specs.declared.routine.Bodies.{Bodies}
use Rattle.check_body.specs.declared.routine.Numbered.{Numbered}
use Rattle.check_body.specs.Routines.{numbered_by, numbered_elaborated, numbered_known, empty_routine, put_routine, routine}
use Rattle.check_body.specs.declared.procedure.Walk.{Walk}
use Rattle.check_body.specs.Elaborating.{Elaborates, statements_of}
use Rattle.check_body.specs.Inside.{which_of, with_routine}
use Rattle.check_body.specs.Bodies.{Steps, Checks, ChecksBlock, marked_by, declared_by, again_by, checked_by, begun_from, with_body, procedure_checked, steps_layer, block_layer, steps, checks_block, checks_decl}
use Rattle.law_well_formed.specs.FormedBodies.{FormsStatements, Keeps, FormedBlock}
use Rattle.law_well_formed.specs.FormedHeadings.{heading_in}
use Rattle.law_well_formed.specs.FormedScopes.{Leads}
use Rattle.law_well_formed.proofs.Parts.{nothing_at, no_home, nothing_open, all_marks, all_lead}
use Rattle.law_well_formed.proofs.Checks.{entry, inner, inner_ok}
use Rattle.law_well_formed.proofs.BodiesBlocks.{step_own, step_keeps, step_reported}
use Rattle.law_well_formed.proofs.Induction.{decls_formed, blocks_formed}
use Rattle.law_folds.proofs.AgainSteps.{block_reported}
use Rattle.law_well_formed.proofs.ModulesSteps.{are_steps, declared_is}
use Rattle.law_encoding.specs.Sizes.{sum_of, total, size_decl, size_block, size_section, size_stmts, size_stmts_if, size_heading}
use Rattle.law_encoding.specs.Sizes as sizes
use Rattle.law_encoding.specs.TypedSizes.{size_body}
use Rattle.law_encoding.specs.Counted.{AtMost, fine, broken}
use Rattle.law_encoding.specs.Short.{routine_counts}
use Rattle.law_encoding.proofs.Sums.{sum_append}
use Rattle.law_encoding.proofs.Variants.{sizes_decl, sizes_block}
use Rattle.law_encoding.proofs.Variants as variants
use Rattle.law_encoding.proofs.Awaited.{Names, HeadFits}
use Rattle.law_encoding.proofs.HeadingCounts.{names_in, heading_names, type_weight, Within, HeadingFits, HeadingsFit, block_withs, block_fits}

-- ---- one procedure that is put in place of another

set_step : (a b c n : ℕ) → b ≤ c + n → a + b ≤ a + c + n
set_step a b c n l = omega (arith, l)

set_here : (a b n m : ℕ) → a ≤ n → a + b ≤ m + b + n
set_here a b n m l = omega (arith, l)

none_set : (n : ℕ) → 0 ≤ 0 + n
none_set n = omega arith

first_filled : (a b c d n m : ℕ) → a ≤ b + c → b + d ≤ n → c ≤ m → a + d ≤ n + m
first_filled a b c d n m h k l = omega (arith, h, k, l)

second_filled : (a b c d n m : ℕ) → a ≤ b + c → d + b ≤ n → c ≤ m → d + a ≤ n + m
second_filled a b c d n m h k l = omega (arith, h, k, l)

routine_sum : (w b n m : ℕ) → w ≤ n → b ≤ m → w + b ≤ n + m
routine_sum w b n m h l = omega (arith, h, l)

no_more : (n m k : ℕ) → k ≤ n → k ≤ n + m
no_more n m k l = omega (arith, l)

begun_sum : (a b c n : ℕ) → b ≡ c + (1 + 0) → a + c ≤ n → a + b ≤ n + 1
begun_sum a b c n e l = omega (arith, e, l)

plus_none : (a k : ℕ) → a ≤ k → a ≤ k + 0
plus_none a k l = omega (arith, l)

sum_again : (a k n b : ℕ) → a ≤ k + n + b → a ≤ k + (n + b)
sum_again a k n b l = omega (arith, l)

-- the heading of a procedure that is known counts no more than what is said of it
module _ (weight : TypeNo → ℕ) (n : ℕ) (p : Numbered) where
  same_heading : (q : Numbered) → ◌≡◌ {A = Option Numbered} (Some q) (Some p) → q.heading ≡ p.heading
  same_heading q e = let same : q ≡ p = cc in ap (λ (x : Numbered). x.heading) same

  meant_fits : (m : Meaning) → ((t : TypeNo) → heading_in m ≡ Some t → weight t ≤ n) → numbered_by m ≡ Some p
      → weight p.heading ≤ n
  meant_fits (meaning.Procedure q) k e = subst (λ (t : TypeNo). weight t ≤ n) (same_heading _ e) (k q.heading refl)
  meant_fits (meaning.LocalProcedure q) k e = subst (λ (t : TypeNo). weight t ≤ n) (same_heading _ e) (k q.heading refl)
  meant_fits (meaning.Constant v) k e = absurd cc
  meant_fits (meaning.Type u i) k e = absurd cc
  meant_fits (meaning.Variable v) k e = absurd cc
  meant_fits (meaning.Local v) k e = absurd cc
  meant_fits (meaning.Field f) k e = absurd cc
  meant_fits meaning.Ahead k e = absurd cc
  meant_fits (meaning.Standard f) k e = absurd cc
  meant_fits (meaning.Module i) k e = absurd cc

  elaborated_fits : {T : Type 0} (r : Result Meaning T)
      → ((m : Meaning) (t : TypeNo) → r ≡ Ok m → heading_in m ≡ Some t → weight t ≤ n) → numbered_elaborated r ≡ Some p
      → weight p.heading ≤ n
  elaborated_fits (Ok m) k e = meant_fits m (λ t is. k m t refl is) e
  elaborated_fits (Err x) k e = absurd cc

  known_fits : {T : Type 0} (o : Option (Known T))
      → ((m : Meaning) (t : TypeNo) → o ≡ Some (Headed (Ok m)) → heading_in m ≡ Some t → weight t ≤ n)
      → numbered_known o ≡ Some p → weight p.heading ≤ n
  known_fits None k e = absurd cc
  known_fits (Some Later) k e = absurd cc
  known_fits (Some Ahead) k e = absurd cc
  known_fits (Some Begun) k e = absurd cc
  known_fits {T} (Some (Headed r)) k e = elaborated_fits r
      (λ m t q is. k m t (ap (λ (x : Result Meaning (Meaningless T)). Some (Headed x)) q) is) e
  known_fits (Some (Declared o r)) k e = absurd cc

-- ---- what a declaration of the module itself counts beside its heading

abbrev pub outermost_size : Decl-F Decl Block → ℕ
outermost_size (layer.Constants cs) = 0
outermost_size (layer.Types ts) = 0
outermost_size (layer.Variables vs) = 0
outermost_size (layer.Procedure h b) = 0 + heading_names h + size_block b

abbrev pub outermost_sizes : List Decl → ℕ
outermost_sizes ds = sum_of (λ d. outermost_size (out-Decl d)) ds

twice_sum : (a n b : ℕ) → a ≡ 2 * b → 2 * n + a ≡ 2 * (n + b)
twice_sum a n b e = omega (arith, e)

pub section_sizes : (xs : List Section) → sum_of size_section xs ≡ 2 * sum_of (λ (x : Section). length x.names) xs
section_sizes [] = refl
section_sizes (x ∷ xs) = twice_sum (sum_of size_section xs) (length x.names) _ (section_sizes xs)

module _ (types : Types) where
  -- ---- the procedures so far

  abbrev pub counts_so_far : Bodies → ℕ
  counts_so_far rs = sum_of (routine_counts types) rs.procedures + sum_of (routine_counts types) rs.locals

  set_most : (rs : List Routine) (n : ℕ) (r : Routine)
      → sum_of (routine_counts types) (slice_set rs n r) ≤ sum_of (routine_counts types) rs + routine_counts types r
  set_most [] n r = none_set (routine_counts types r)
  set_most (x ∷ rs) zero r = set_here (routine_counts types r) (sum_of (routine_counts types) rs)
      (routine_counts types r) (routine_counts types x) (omega arith)
  set_most (x ∷ rs) (suc n) r = set_step (routine_counts types x) _ _ (routine_counts types r) (set_most rs n r)

  filled_most : (n m : ℕ) (rs : Bodies) (w : Which) (r : Routine) → counts_so_far rs ≤ n → routine_counts types r ≤ m
      → counts_so_far (put_routine rs w r) ≤ n + m
  filled_most n m rs (which.Module k) r p q = first_filled _ _ _ _ n m (set_most rs.procedures k r) p q
  filled_most n m rs (which.Local k) r p q = second_filled _ _ _ _ n m (set_most rs.locals k r) p q

  -- a procedure in a procedure counts one before it is filled, and one of the module itself nothing more
  abbrev pub begun_more : Bool → ℕ
  begun_more true = 0
  begun_more false = 1

  begun_by : (b : Bool) (n : ℕ) (rs : Bodies) → counts_so_far rs ≤ n
      → counts_so_far (cond b rs (record rs { locals = rs.locals ++ empty_routine integer ∷ [] })) ≤ n + begun_more b
  begun_by true n rs p = plus_none _ n p
  begun_by false n rs p = begun_sum _ _ _ n (sum_append (routine_counts types) rs.locals (empty_routine integer ∷ [])) p

  module _ (g : Gathers) (elaborates : Elaborates g.Reported) (forms : FormsStatements g elaborates)
      (small : (s : Scope g.Reported) (r : Option (Result TypeNo g.Reported)) (xs : List Stmt)
      → AtMost size_body (size_stmts xs) (elaborates s r xs)) where
    with_routine_most : (n m j : ℕ) (s : Scope g.Reported) (name : Ident) (around : Option Which) (formals : ℕ)
        (o : Option Numbered) {body : Result (List TypedStmt) g.Reported} (rs : Bodies)
        → ((p : Numbered) → o ≡ Some p → type_weight types p.heading ≤ m) → counts_so_far rs ≤ n
        → AtMost size_body j body → counts_so_far (with_routine s name around formals o body rs) ≤ n + (m + j)
    with_routine_most n m j s name around formals None rs h p q = no_more n (m + j) _ p
    with_routine_most n m j s name around formals (Some k) rs h p (fine xs q) =
        filled_most n (m + j) rs k.which (routine s name k around formals xs) p
        (routine_sum (type_weight types k.heading) (size_body xs) m j (h k refl) q)
    with_routine_most n m j s name around formals (Some k) rs h p (broken e) = no_more n (m + j) _ p

    pub statements_most : (s : Scope g.Reported) (returns : Option (Result TypeNo g.Reported))
        (body : Option (List Stmt)) → AtMost size_body (size_stmts_if body) (statements_of elaborates s returns body)
    statements_most s returns None = fine [] (omega arith)
    statements_most s returns (Some xs) = small s returns xs

    -- ---- declarations and blocks

    -- what leads to a walk that breaks no rule, and whose types the module has in the end
    pub record Ends (w : Walk g.Reported) : Type 0 where
      pub reported : w.so_far ≡ Ok tt
      pub within : Within types w.scope

    ends_back : {w w' : Walk g.Reported} → (w'.so_far ≡ Ok tt → w.so_far ≡ Ok tt) → Keeps w.scope w'.scope → Ends w'
        → Ends w
    ends_back r k e = record { reported = r e.reported; within = λ t x p. e.within t x (k.types t x p) }

    -- a declaration adds at most so many
    abbrev Adds : {A B : Type 0} → Decl-F A B → ℕ → Checks g.Reported → Type 0
    Adds y n f = (around : Option Which) (seen : ℕ) (w : Walk g.Reported) (k : ℕ) → w.scope.withs ≡ []
        → HeadingFits types g w.scope.own y → Ends (f around seen w) → counts_so_far w.bodies ≤ k
        → counts_so_far (f around seen w).bodies ≤ k + n

    -- a block with its own statements
    abbrev AddsBlock : ℕ → ChecksBlock g.Reported → Type 0
    AddsBlock n f = (around : Option Which) (returns : Option (Result TypeNo g.Reported)) (w : Walk g.Reported) (k : ℕ)
        → w.scope.withs ≡ [] → Ends (f around returns w).0 → counts_so_far w.bodies ≤ k
        → (m j : ℕ) × (m + j ≤ n) × (counts_so_far (f around returns w).0.bodies ≤ k + m)
        × AtMost size_body j (f around returns w).1

    procedure_sum : (a k b c m j n : ℕ) → a ≤ k + b + m + (c + j) → m + j ≤ n → a ≤ k + (b + c + n)
    procedure_sum a k b c m j n h l = omega (arith, h, l)

    pub procedure_most : (ends : List ℕ) (n : ℕ) (h : Heading) (block : ChecksBlock g.Reported) (ks : List ℕ)
        → FormedBlock g ends block ks → AddsBlock n block
        → (around : Option Which) (seen : ℕ) (w : Walk g.Reported) (k : ℕ) → w.scope.withs ≡ []
        → HeadFits (type_weight types) (heading_names h) w.scope.own h.name.name
        → Ends (procedure_checked g elaborates ends h block around seen w) → counts_so_far w.bodies ≤ k
        → counts_so_far (procedure_checked g elaborates ends h block around seen w).bodies ≤ k +
        (begun_more (w.scope.level == 0) + heading_names h + n)
    procedure_most ends n h block ks f adds around seen w k withs fits e p =
        let b = entry g elaborates ends h block ks f around seen w in
        let i = inner g elaborates ends h block ks f around seen w in
        let more = begun_more (w.scope.level == 0) in
        let ends_in : Ends i.0 = record {
          reported = inner_ok g elaborates ends h block ks f around seen w e.reported;
          within = e.within;
        } in
        let r = adds (which_of b.1.procedure) b.1.returns b.0 (k + more) withs ends_in
        (begun_by (w.scope.level == 0) k w.bodies p) in
        procedure_sum _ k more (heading_names h) r.0 r.1 n
        (with_routine_most (k + more + r.0) (heading_names h) r.1 i.0.scope h.name around b.1.formals b.1.procedure
        i.0.bodies
        (λ q named. known_fits (type_weight types) (heading_names h) q (find_name h.name.name w.scope.own) fits named)
        r.3 r.4) r.2

    module _ (ends : List ℕ) where
      abbrev steps_of : Decl → Steps g.Reported
      steps_of = steps g elaborates ends

      abbrev block_of : Block → ChecksBlock g.Reported
      block_of = checks_block g elaborates ends

      abbrev PD : Decl → Type 0
      PD d = Adds (out-Decl d) (size_decl d) (steps_of d).checks

      abbrev PB : Block → Type 0
      PB b = AddsBlock (size_block b) (block_of b)

      abbrev SD : Type 0
      SD = (d : Decl) × PD d

      abbrev SB : Type 0
      SB = (b : Block) × PB b

      -- ---- the bodies of some declarations

      abbrev next_body : (around : Option Which) (seen : List ℕ) → Walk g.Reported × ℕ → Decl → Walk g.Reported × ℕ
      next_body around seen st d = with_body (λ (x : Steps g.Reported). checked_by x around) seen st (steps_of d)

      abbrev bodies_of : (around : Option Which) (seen : List ℕ) → Walk g.Reported × ℕ → List Decl → Walk g.Reported × ℕ
      bodies_of around seen st ds = fold (with_body (λ (x : Steps g.Reported). checked_by x around) seen) st
          (map steps_of ds)

      ends_before : (around : Option Which) (seen : List ℕ) (ds : List Decl) (st : Walk g.Reported × ℕ)
          → Ends (bodies_of around seen st ds).0 → Ends st.0
      ends_before around seen [] st e = e
      ends_before around seen (d ∷ ds) st e =
          let n = unwrap_or (slice_get seen st.1) 0 in
          let p = decls_formed g elaborates forms ends d in
          ends_back (step_reported g elaborates ends around p n st.0) (step_keeps g elaborates ends around p n st.0)
          (ends_before around seen ds (next_body around seen st d) e)

      bodies_most : (around : Option Which) (seen : List ℕ) (own : Names g.Reported) (xs : List SD)
          (st : Walk g.Reported × ℕ) (k : ℕ) → st.0.scope.own ≡ own → st.0.scope.withs ≡ []
          → HeadingsFit types g own (map (λ (x : SD). x.0) xs)
          → Ends (bodies_of around seen st (map (λ (x : SD). x.0) xs)).0 → counts_so_far st.0.bodies ≤ k
          → counts_so_far (bodies_of around seen st (map (λ (x : SD). x.0) xs)).0.bodies ≤ k + total
          (map size_decl (map (λ (x : SD). x.0) xs))
      bodies_most around seen own [] st k same withs fits e p = plus_none _ k p
      bodies_most around seen own (x ∷ xs) st k same withs fits e p =
          let n = unwrap_or (slice_get seen st.1) 0 in
          let f = decls_formed g elaborates forms ends x.0 in
          let next = next_body around seen st x.0 in
          let here : Ends next.0 = ends_before around seen (map (λ (x : SD). x.0) xs) next e in
          let first = x.1 around n st.0 k withs
          (subst (λ (es : Names g.Reported). HeadingFits types g es (out-Decl x.0)) (sym same) fits.0) here p in
          sum_again _ k (size_decl x.0) (total (map size_decl (map (λ (x : SD). x.0) xs)))
          (bodies_most around seen own xs next (k + size_decl x.0) (step_own g elaborates ends around f n st.0 ∙ same)
          ((step_keeps g elaborates ends around f n st.0).withs ∙ withs) fits.1 e first)

      -- ---- the induction

      abbrev bare : Decl-F SD SB → Decl-F Decl Block
      bare x = map-Decl SD SB Decl Block (λ e. e.0) (λ e. e.0) x

      abbrev bare_block : Block-F SD SB → Block-F Decl Block
      bare_block x = map-Block SD SB Decl Block (λ e. e.0) (λ e. e.0) x

      abbrev opened : Decl-F Decl Block → Decl-F (Steps g.Reported) (ChecksBlock g.Reported)
      opened x = map-Decl Decl Block (Steps g.Reported) (ChecksBlock g.Reported) steps_of block_of x

      abbrev opened_block : Block-F Decl Block → Block-F (Steps g.Reported) (ChecksBlock g.Reported)
      opened_block x = map-Block Decl Block (Steps g.Reported) (ChecksBlock g.Reported) steps_of block_of x

      at : (e : Decl) (x : Decl-F Decl Block) → out-Decl e ≡ x → steps_of e ≡ steps_layer g elaborates ends (opened x)
      unfolding steps checks_block
      at e x h = fold_out-Decl (Steps g.Reported) (ChecksBlock g.Reported) (steps_layer g elaborates ends)
          (block_layer g elaborates ends) e ∙ ap (λ (y : Decl-F Decl Block). steps_layer g elaborates ends (opened y)) h

      at_of : (e : Block) (x : Block-F Decl Block) → out-Block e ≡ x
          → block_of e ≡ block_layer g elaborates ends (opened_block x)
      unfolding steps checks_block
      at_of e x h = fold_out-Block (Steps g.Reported) (ChecksBlock g.Reported) (steps_layer g elaborates ends)
          (block_layer g elaborates ends) e ∙ ap
          (λ (y : Block-F Decl Block). block_layer g elaborates ends (opened_block y)) h

      begun_one : (b : Bool) → begun_more b ≤ 1
      begun_one true = omega arith
      begun_one false = omega arith

      heading_room : (a k b h n s : ℕ) → a ≤ k + (b + (1 + h) + n) → b ≤ 1 → s ≡ 2 * h → a ≤ k + (1 + (1 + s) + n)
      heading_room a k b h n s p l e = omega (arith, p, l, e)

      decl_most : (y : Decl-F SD SB) → Adds (bare y) (sizes.decl_layer (sizes_decl (bare y)))
          (steps_layer g elaborates ends (opened (bare y))).checks
      decl_most (layer.Constants cs) around seen w k withs fits e p = no_more k _ _ p
      decl_most (layer.Types ts) around seen w k withs fits e p = no_more k _ _ p
      decl_most (layer.Variables vs) around seen w k withs fits e p = no_more k _ _ p
      decl_most (layer.Procedure h b) around seen w k withs fits e p =
          heading_room _ k (begun_more (w.scope.level == 0)) (names_in h) (size_block b.0)
          (sum_of size_section h.formals)
          (procedure_most ends (size_block b.0) h (block_of b.0) (within b.0)
          (blocks_formed g elaborates forms ends b.0) b.1 around seen w k withs fits e p)
          (begun_one (w.scope.level == 0)) (section_sizes h.formals)

      block_headings : (s : Scope g.Reported) (so_far : Result (Unit {0}) g.Reported) (first : ℕ) (ds : List Decl)
          → s.withs ≡ []
          → let d = all_declared marked_by declared_by again_by (s, so_far) first (map steps_of ds) in
          (d.0.withs ≡ []) × (d.1 ≡ Ok tt → Within types d.0 → HeadingsFit types g d.0.own ds)
      block_headings s so_far first ds withs =
          subst (λ (d : Behind g.Reported). (d.0.withs ≡ [])
          × (d.1 ≡ Ok tt → Within types d.0 → HeadingsFit types g d.0.own ds))
          (declared_is g elaborates forms ends (s, so_far) first ds) (
            block_withs types g ends first ds s so_far withs,
            λ ok in_types.
                (block_fits types g ends first ds s so_far withs
                (block_reported g ends (s, so_far) first ds ok) in_types).0,
          )

      block_sum : (n j : ℕ) → n + j ≤ 1 + n + j
      block_sum n j = omega arith

      block_most : (y : Block-F SD SB) → AddsBlock (sizes.block_layer (sizes_block (bare_block y)))
          (block_layer g elaborates ends (opened_block (bare_block y)))
      block_most y around returns w k withs e p =
          let ds = map (λ (x : SD). x.0) y.decls in
          let ns = map size_decl ds in
          let d : Behind g.Reported = all_declared marked_by declared_by again_by (w.scope, w.so_far)
          (length w.bodies.locals) (map steps_of ds) in
          let start : Walk g.Reported = begun_from d w.bodies in
          let begun : Ends start = ends_before around d.2 ds (start, 0) e in
          let heads = block_headings w.scope w.so_far (length w.bodies.locals) ds withs in (
            total ns,
            size_stmts_if y.body,
            block_sum (total ns) (size_stmts_if y.body),
            bodies_most around d.2 d.0.own y.decls (start, 0) k refl heads.0 (heads.1 begun.reported begun.within) e p,
            statements_most (bodies_of around d.2 (start, 0) ds).0.scope returns y.body,
          )

      step_decl : (x : Decl-F Decl Block) (y : Decl-F SD SB) → bare y ≡ x → PD (roll-Decl x)
      step_decl x y q =
          let e = out-roll-Decl x ∙ sym q in
          subst (λ (z : Decl-F Decl Block). Adds z (size_decl (roll-Decl x)) (steps_of (roll-Decl x)).checks) (sym e)
          (subst (λ (n : ℕ). Adds (bare y) n (steps_of (roll-Decl x)).checks)
          (sym (variants.at_decl (roll-Decl x) (bare y) e))
          (subst (λ (f : Steps g.Reported). Adds (bare y) (sizes.decl_layer (sizes_decl (bare y))) f.checks)
          (sym (at (roll-Decl x) (bare y) e)) (decl_most y)))

      step_block : (x : Block-F Decl Block) (y : Block-F SD SB) → bare_block y ≡ x → PB (roll-Block x)
      step_block x y q =
          let e = out-roll-Block x ∙ sym q in
          subst (λ (n : ℕ). AddsBlock n (block_of (roll-Block x)))
          (sym (variants.at_block (roll-Block x) (bare_block y) e))
          (subst (AddsBlock (sizes.block_layer (sizes_block (bare_block y))))
          (sym (at_of (roll-Block x) (bare_block y) e)) (block_most y))

      blocks_most : (b : Block) → PB b
      blocks_most = ind-Block PD PB step_decl step_block

      -- ---- the procedures of the module itself

      outermost_by : (d : Decl) (x : Decl-F Decl Block) → out-Decl d ≡ x → (seen : ℕ) (w : Walk g.Reported) (k : ℕ)
          → w.scope.withs ≡ [] → (w.scope.level == 0) ≡ true → HeadingFits types g w.scope.own x
          → Ends (checks_decl g elaborates ends d None seen w) → counts_so_far w.bodies ≤ k
          → counts_so_far (checks_decl g elaborates ends d None seen w).bodies ≤ k + outermost_size x
      outermost_by d x q seen w k withs level fits e p =
          subst (λ (f : Steps g.Reported). Ends (f.checks None seen w)
          → counts_so_far (f.checks None seen w).bodies ≤ k + outermost_size x) (sym (at d x q)) (layer_by x fits) e
        where
          layer_by : (x : Decl-F Decl Block) → HeadingFits types g w.scope.own x
              → Ends ((steps_layer g elaborates ends (opened x)).checks None seen w)
              → counts_so_far ((steps_layer g elaborates ends (opened x)).checks None seen w).bodies ≤ k +
              outermost_size x
          layer_by (layer.Constants cs) fits e = plus_none _ k p
          layer_by (layer.Types ts) fits e = plus_none _ k p
          layer_by (layer.Variables vs) fits e = plus_none _ k p
          layer_by (layer.Procedure h b) fits e =
              subst (λ (l : Bool). counts_so_far
              (procedure_checked g elaborates ends h (block_of b) None seen w).bodies ≤ k +
              (begun_more l + heading_names h + size_block b)) level
              (procedure_most ends (size_block b) h (block_of b) (within b) (blocks_formed g elaborates forms ends b)
              (blocks_most b) None seen w k withs fits e p)

      abbrev bodies_at : (seen : List ℕ) → Walk g.Reported × ℕ → List Decl → Walk g.Reported × ℕ
      bodies_at seen st ds = fold (with_body (λ (d : Decl). checks_decl g elaborates ends d None) seen) st ds

      pub ends_at : (seen : List ℕ) (ds : List Decl) (st : Walk g.Reported × ℕ) → Ends (bodies_at seen st ds).0
          → Ends st.0
      ends_at seen [] st e = e
      ends_at seen (d ∷ ds) st e =
          let n = unwrap_or (slice_get seen st.1) 0 in
          let p = decls_formed g elaborates forms ends d in
          ends_back (step_reported g elaborates ends None p n st.0) (step_keeps g elaborates ends None p n st.0)
          (ends_at seen ds (with_body (λ (d : Decl). checks_decl g elaborates ends d None) seen st d) e)

      pub outermost_most : (seen : List ℕ) (own : Names g.Reported) (ds : List Decl) (st : Walk g.Reported × ℕ) (k : ℕ)
          → st.0.scope.own ≡ own → st.0.scope.withs ≡ [] → (st.0.scope.level == 0) ≡ true
          → HeadingsFit types g own ds → Ends (bodies_at seen st ds).0 → counts_so_far st.0.bodies ≤ k
          → counts_so_far (bodies_at seen st ds).0.bodies ≤ k + outermost_sizes ds
      outermost_most seen own [] st k same withs level fits e p = plus_none _ k p
      outermost_most seen own (d ∷ ds) st k same withs level fits e p =
          let n = unwrap_or (slice_get seen st.1) 0 in
          let f = decls_formed g elaborates forms ends d in
          let next = with_body (λ (d : Decl). checks_decl g elaborates ends d None) seen st d in
          let keeps : Keeps st.0.scope next.0.scope = step_keeps g elaborates ends None f n st.0 in
          let first = outermost_by d (out-Decl d) refl n st.0 k withs level
          (subst (λ (es : Names g.Reported). HeadingFits types g es (out-Decl d)) (sym same) fits.0)
          (ends_at seen ds next e) p in
          sum_again _ k (outermost_size (out-Decl d)) (outermost_sizes ds)
          (outermost_most seen own ds next (k + outermost_size (out-Decl d))
          (step_own g elaborates ends None f n st.0 ∙ same) (keeps.withs ∙ withs)
          (ap (λ (l : ℕ). l == 0) keeps.level ∙ level) fits.1 e first)

      -- the block of a module stands outside procedures
      pub block_level : (s : Scope g.Reported) (so_far : Result (Unit {0}) g.Reported) (first : ℕ) (ds : List Decl)
          → (declared_block g ends (s, so_far) first ds).0.level ≡ s.level
      block_level s so_far first ds =
          let ps = are_steps g elaborates forms ends ds in
          let marks : Scope g.Reported × List ℕ = fold (with_marks marked_by) (s, []) (map steps_of ds) in
          let other : TypedModule = nothing_at marks.0.types.home in
          let one : Leads other nothing_open s marks.0 = all_marks g elaborates ends other nothing_open ps (s, []) in
          let two = all_lead g elaborates ends other nothing_open ps (marks.0, so_far, first)
          (no_home marks.0.types.home) in
          ap (λ (d : Behind g.Reported). d.0.level) (declared_is g elaborates forms ends (s, so_far) first ds)
          ∙ (two.level ∙ one.level)
