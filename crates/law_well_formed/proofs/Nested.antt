-- One procedure in a procedure.
use Rattle.std.proofs.Common.{◌≡◌, ℕ, suc, ◌+◌, ◌<◌, ◌≤◌, ◌==◌, false, List, [], ◌∷◌, ◌++◌, length, Option, Some, Result, Ok, refl, sym, ap, subst, ◌∙◌, arith}
use Rattle.std.specs.Prelude.{slice_get, slice_set}
use Rattle.std.proofs.lemmas.List.{length-append}
use Rattle.std.proofs.lemmas.Option.{same_Some}
use Rattle.m2_tree.specs.declared.decl.Heading.{Heading}
use Rattle.typed_tree.specs.declared.meaning.Meaning.TheVariants as meaning
use Rattle.typed_tree.specs.declared.statement.TypedStmt.{TypedStmt}
use Rattle.typed_tree.specs.declared.typed_module.Routine.{Routine}
use Rattle.typed_tree.specs.declared.typed_module.Which.{Which}
use Rattle.typed_tree.specs.declared.typed_module.Which.TheVariants as which
use Rattle.typed_tree.specs.declared.types.TypeNo.{TypeNo}
use Rattle.typed_tree.specs.Names.{find_name}
use Rattle.typed_tree.specs.Types.{integer}
use Rattle.check_scope.specs.Elaborated.{Gathers}
use Rattle.check_scope.specs.declared.known.Known.{Known}
use Rattle.check_scope.specs.declared.known.Known.TheVariants.{Headed}
use Rattle.check_scope.specs.Inwards.{inwards}
use Rattle.check_body.specs.declared.routine.Bodies.{Bodies}
use Rattle.check_body.specs.declared.routine.Numbered.{Numbered}
use Rattle.check_body.specs.Routines.{numbered_known, empty_routine, routine}
use Rattle.check_body.specs.declared.procedure.Walk.{Walk}
use Rattle.check_body.specs.Elaborating.{Elaborates}
use Rattle.check_body.specs.Inside.{which_of, with_routine}
use Rattle.check_body.specs.Bodies.{ChecksBlock}
use Rattle.law_well_formed.specs.FormedBodies.{AreNumbered, Begins, FormedBlock}
use Rattle.law_well_formed.proofs.Places.{set_other, set_same}
use Rattle.law_well_formed.proofs.Scopes.{formals_await}
use Rattle.law_well_formed.proofs.Checks.{nonzero, Placed, there, past, placed, begun_locals, entry, inner, ended, inside, around_it, inner_ok, body_ok}

-- it stands in the procedure of a block, or in another one that was added
pub data Nests (rs : List Routine) (first : ℕ) (around : Option Which) (level : ℕ) (r : Routine) : Type 0 where
  in_block : r.around ≡ around → r.level ≡ suc level → Nests rs first around level r
  in_other : (k : ℕ) (q : Routine) → first ≤ k → slice_get rs k ≡ Some q → r.around ≡ Some (which.Local k)
      → r.level ≡ suc q.level → Nests rs first around level r

-- all that are added from one walk to the other do
abbrev pub AddsNests : {T : Type 0} → Option Which → Walk T → Walk T → Type 0
AddsNests around w w' = (n : ℕ) (r : Routine) → length w.bodies.locals ≤ n → slice_get w'.bodies.locals n ≡ Some r
    → Nests w'.bodies.locals (length w.bodies.locals) around w.scope.level r

-- as many blocks stand around as the level says
abbrev pub IsDeep : {T : Type 0} → Walk T → Type 0
IsDeep w = length w.scope.outer ≡ suc w.scope.level

pub record NestedBlock (g : Gathers) (ends : List ℕ) (block : ChecksBlock g.Reported) (ks : List ℕ) : Type 0 where
  pub nests : (around : Option Which) (returns : Option (Result TypeNo g.Reported)) (w : Walk g.Reported)
      → Begins ends w ks → IsDeep w
      → (block around returns w).0.so_far ≡ Ok tt → AddsNests around w (block around returns w).0

module _ (g : Gathers) (elaborates : Elaborates g.Reported) (ends : List ℕ) (h : Heading)
    (block : ChecksBlock g.Reported) (ks : List ℕ) (f : FormedBlock g ends block ks) (b : NestedBlock g ends block ks)
    (around : Option Which) (seen : ℕ) (w : Walk g.Reported) where
  abbrev first : Walk g.Reported
  first = (entry g elaborates ends h block ks f around seen w).0

  abbrev last : Walk g.Reported
  last = (inner g elaborates ends h block ks f around seen w).0

  abbrev behind : Walk g.Reported
  behind = ended g elaborates ends h block ks f around seen w

  -- the procedure whose block it is
  abbrev own : Option Which
  own = which_of (entry g elaborates ends h block ks f around seen w).1.procedure

  pub first_deep : IsDeep first
  first_deep = let e : length first.scope.outer ≡ length w.scope.outer + 1 =
      length-append w.scope.outer (around_it g elaborates ends h block ks f around seen w ∷ []) in omega (arith, e)

  module _ (level : (w.scope.level == 0) ≡ false) (deep : 1 < length w.scope.outer) (is_deep : IsDeep w) (l : ℕ)
      (t : TypeNo)
      (head : find_name h.name.name w.scope.own
      ≡ Some (Headed (Ok (meaning.LocalProcedure
      (record { level = l; number = length w.bodies.locals; heading = t })))))
      (numbers : AreNumbered ends (length w.bodies.locals + 1) ks) (ok : behind.so_far ≡ Ok tt) where
    first_locals : first.bodies.locals ≡ w.bodies.locals ++ empty_routine integer ∷ []
    first_locals = begun_locals (w.scope.level == 0) level w.bodies

    first_length : length first.bodies.locals ≡ length w.bodies.locals + 1
    first_length = ap (λ (rs : List Routine). length rs) first_locals
        ∙ length-append w.bodies.locals (empty_routine integer ∷ [])

    begins : Begins ends first ks
    begins = record {
      level = nonzero (length w.scope.outer) (omega (arith, deep));
      deep = let e : length first.scope.outer ≡ length w.scope.outer + 1 =
          length-append w.scope.outer (around_it g elaborates ends h block ks f around seen w ∷ []) in
          omega (arith, deep, e);
      awaits = λ name. formals_await g (inwards w.scope seen) h.formals name;
      numbers = subst (λ (n : ℕ). AreNumbered ends n ks) (sym first_length) numbers;
    }

    abbrev numbered : Numbered
    numbered = record { which = which.Local (length w.bodies.locals); heading = t }

    abbrev new : Routine
    new = routine last.scope h.name numbered around (entry g elaborates ends h block ks f around seen w).1.formals
        (body_ok g elaborates ends h block ks f around seen w ok).0

    own_is : own ≡ Some (which.Local (length w.bodies.locals))
    own_is = ap (λ (o : Option (Known g.Reported)). which_of (numbered_known o)) head

    locals_are : behind.bodies.locals ≡ slice_set last.bodies.locals (length w.bodies.locals) new
    locals_are =
        ap (λ (rs : Bodies). rs.locals)
        (ap (λ (o : Option (Known g.Reported)). with_routine last.scope h.name around
        (entry g elaborates ends h block ks f around seen w).1.formals (numbered_known o)
        (inner g elaborates ends h block ks f around seen w).1 last.bodies) head
        ∙ ap (λ (r : Result (List TypedStmt) g.Reported). with_routine last.scope h.name around
        (entry g elaborates ends h block ks f around seen w).1.formals (Some numbered) r last.bodies)
        (body_ok g elaborates ends h block ks f around seen w ok).1)

    last_length : length last.bodies.locals ≡ length w.bodies.locals + 1 + length ks
    last_length =
        let a = f.count own (entry g elaborates ends h block ks f around seen w).1.returns first begins.level
        (let d = begins.deep in omega (arith, d)) in
        let b = first_length in
        omega (arith, a, b)

    get_new : slice_get behind.bodies.locals (length w.bodies.locals) ≡ Some new
    get_new =
        ap (λ (rs : List Routine). slice_get rs (length w.bodies.locals)) locals_are
        ∙ set_same last.bodies.locals (length w.bodies.locals) new (let e = last_length in omega (arith, e))

    get_other : (k : ℕ) → (k ≡ length w.bodies.locals → ⊥)
        → slice_get behind.bodies.locals k ≡ slice_get last.bodies.locals k
    get_other k apart = ap (λ (rs : List Routine). slice_get rs k) locals_are
        ∙ set_other last.bodies.locals (length w.bodies.locals) k new apart

    new_level : new.level ≡ suc w.scope.level
    new_level = (inside g elaborates ends h block ks f around seen w).level ∙ is_deep

    -- the procedure itself is there, and stands in the block
    pub nested_there : (r : Routine) × ((slice_get behind.bodies.locals (length w.bodies.locals) ≡ Some r)
        × ((r.heading ≡ t) × ((r.around ≡ around) × (r.level ≡ suc w.scope.level))))
    nested_there = (new, (get_new, (refl, (refl, new_level))))

    -- what stands in its block stands in it
    within : (r : Routine) → Nests last.bodies.locals (length first.bodies.locals) own first.scope.level r
        → Nests behind.bodies.locals (length w.bodies.locals) around w.scope.level r
    within r (in_block p q) = in_other (length w.bodies.locals) new (omega arith) get_new (p ∙ own_is)
        (q ∙ ap suc (sym (inside g elaborates ends h block ks f around seen w).level))
    within r (in_other k x a e p q) =
        in_other k x (let c = first_length in omega (arith, a, c))
        (get_other k (λ z. let c = first_length in omega (arith, a, c, z)) ∙ e) p q

    by : (k : ℕ) (r : Routine) → slice_get behind.bodies.locals k ≡ Some r → Placed (length w.bodies.locals) k
        → Nests behind.bodies.locals (length w.bodies.locals) around w.scope.level r
    by k r e (there z) =
        subst (λ (x : Routine). Nests behind.bodies.locals (length w.bodies.locals) around w.scope.level x)
        (same_Some new r (sym get_new ∙ ap (λ (n : ℕ). slice_get behind.bodies.locals n) (sym z) ∙ e))
        (in_block refl new_level)
    by k r e (past z) =
        within r (b.nests own (entry g elaborates ends h block ks f around seen w).1.returns first begins first_deep
        (inner_ok g elaborates ends h block ks f around seen w ok) k r
        (let a = first_length in omega (arith, a, z)) (sym (get_other k (λ y. omega (arith, y, z))) ∙ e))

    pub nested_nests : AddsNests around w behind
    nested_nests k r a e = by k r e (placed (length w.bodies.locals) k a)
