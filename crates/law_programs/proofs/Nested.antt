-- The body of one procedure in a procedure, typed.
use Rattle.std.proofs.Common.{◌≡◌, ℕ, suc, ◌+◌, ◌<◌, ◌==◌, false, List, [], ◌∷◌, ◌++◌, map, length, Option, Some, Result, Ok, sym, ap, subst, ◌∙◌, arith}
use Rattle.std.specs.Prelude.{drop, slice_get, slice_set}
use Rattle.std.proofs.lemmas.List.{length-append}
use Rattle.std.proofs.lemmas.Option.{same_Some}
use Rattle.m2_tree.specs.declared.decl.Heading.{Heading}
use Rattle.typed_tree.specs.declared.known_types.Types.{Types}
use Rattle.typed_tree.specs.declared.meaning.Meaning.TheVariants as meaning
use Rattle.typed_tree.specs.declared.shape.Formal.{Formal}
use Rattle.typed_tree.specs.declared.statement.TypedStmt.{TypedStmt}
use Rattle.typed_tree.specs.declared.typed_module.Routine.{Routine}
use Rattle.typed_tree.specs.declared.typed_module.Which.{Which}
use Rattle.typed_tree.specs.declared.typed_module.Which.TheVariants as which
use Rattle.typed_tree.specs.declared.types.TypeNo.{TypeNo}
use Rattle.typed_tree.specs.Names.{find_name}
use Rattle.typed_tree.specs.Types.{integer}
use Rattle.check_scope.specs.Elaborated.{Gathers}
use Rattle.check_scope.specs.declared.known.Known.{Known}
use Rattle.check_scope.specs.declared.known.Known.TheVariants.{Headed}
use Rattle.layout_storage.specs.Frames.{formals_of}
use Rattle.layout_storage.specs.Shapes.{tree}
use Rattle.check_scope.specs.Inwards.{inwards}
use Rattle.check_body.specs.declared.routine.Bodies.{Bodies}
use Rattle.check_body.specs.declared.routine.Numbered.{Numbered}
use Rattle.check_body.specs.Routines.{numbered_known, empty_routine, routine}
use Rattle.check_body.specs.declared.procedure.Walk.{Walk}
use Rattle.check_body.specs.Elaborating.{Elaborates}
use Rattle.check_body.specs.Inside.{which_of, with_routine}
use Rattle.check_body.specs.Bodies.{ChecksBlock}
use Rattle.law_simulation.specs.Frames.{Kinds, Kept, formal_kind, kinds_of}
use Rattle.law_simulation.specs.Passing.{result_of}
use Rattle.law_simulation.specs.TreesTyped.{own_kinds, kinds_around}
use Rattle.def_scheme.specs.Functions.{around_in}
use Rattle.law_well_formed.specs.Formed.{Holds}
use Rattle.law_well_formed.specs.FormedBodies.{AreNumbered, Keeps, Begins, FormedBlock}
use Rattle.law_well_formed.proofs.Places.{set_other, set_same}
use Rattle.law_well_formed.proofs.Scopes.{formals_formed, formals_await}
use Rattle.law_well_formed.proofs.Checks.{nonzero, Placed, there, past, placed, holds_at, begun_locals, entry, inner, ended, inside, around_it, procedure_keeps, inner_ok, body_ok, nested_count}
use Rattle.law_well_formed.proofs.RangesBlocks.{left_ranged}
use Rattle.law_well_formed.specs.Ordered.{AreKnown}
use Rattle.law_well_formed.proofs.OrderTypes.{all_kept, known_behind, made_known}
use Rattle.law_well_formed.proofs.OrderBlocks.{left_ordered}
use Rattle.law_well_formed.specs.FormedNumbers.{all_formals}
use Rattle.law_well_formed.proofs.Entered.{procedure_entered}
use Rattle.law_programs.specs.TypingStmts.{StmtsTyped, AreReturned}
use Rattle.law_programs.specs.Words.{WordsStay}
use Rattle.law_programs.specs.TypingBodies.{Stage, stands, stands_in, StageTyped, BodyTyped, NamesThere, BlocksThere, HeadingAgrees, ScopeKnown, IsDeep, Serves, AddsTyped, HasFrame, Enters, TypedBlock}
use Rattle.law_programs.proofs.Shifting.{names_deeper, blocks_deeper}
use Rattle.law_programs.proofs.Scopes.{blocks_more}
use Rattle.law_programs.proofs.Entered.{entered_locals, entered_fresh, entered_count, entered_known}

module _ (g : Gathers) (elaborates : Elaborates g.Reported) (base : Types) (words : WordsStay g) (ends : List ℕ)
    (h : Heading) (block : ChecksBlock g.Reported) (ks : List ℕ) (f : FormedBlock g ends block ks)
    (b : TypedBlock g base ends block ks)
    (around : Option Which) (seen : ℕ) (w : Walk g.Reported) where
  abbrev first : Walk g.Reported
  first = (entry g elaborates ends h block ks f around seen w).0

  abbrev last : Walk g.Reported
  last = (inner g elaborates ends h block ks f around seen w).0

  abbrev behind : Walk g.Reported
  behind = ended g elaborates ends h block ks f around seen w

  abbrev own : Option Which
  own = which_of (entry g elaborates ends h block ks f around seen w).1.procedure

  abbrev returns : Option (Result TypeNo g.Reported)
  returns = (entry g elaborates ends h block ks f around seen w).1.returns

  abbrev fs : List Formal
  fs = all_formals g (inwards w.scope seen) h.formals

  stays : Keeps first.scope last.scope
  stays = inside g elaborates ends h block ks f around seen w

  pub procedure_known : behind.so_far ≡ Ok tt → ScopeKnown base w.scope → ScopeKnown base behind.scope
  procedure_known ok k =
      let e = b.known own returns first (inner_ok g elaborates ends h block ks f around seen w ok)
      (entered_known g base words w.scope seen h k) in
      let o = (entry g elaborates ends h block ks f around seen w).1.outside in
      record {
        ranged = left_ranged o last.scope e.ranged;
        ordered = left_ordered base o last.scope e.ordered
            (all_kept w.scope.types last.scope.types (made_known w.scope.types last.scope.types stays.types)
            w.scope.variables k.ordered.variables);
        words = words.left o last.scope e.words;
      }

  module _ (level : (w.scope.level == 0) ≡ false) (deep : 1 < length w.scope.outer) (is_deep : IsDeep w) (l : ℕ)
      (t : TypeNo)
      (head : find_name h.name.name w.scope.own
      ≡ Some (Headed (Ok (meaning.LocalProcedure
      (record { level = l; number = length w.bodies.locals; heading = t })))))
      (numbers : AreNumbered ends (length w.bodies.locals + 1) ks) (ok : behind.so_far ≡ Ok tt) where
    first_locals : first.bodies.locals ≡ w.bodies.locals ++ empty_routine integer ∷ []
    first_locals = begun_locals (w.scope.level == 0) level w.bodies

    first_length : length first.bodies.locals ≡ length w.bodies.locals + 1
    first_length = ap (λ (rs : List Routine). length rs) first_locals
        ∙ length-append w.bodies.locals (empty_routine integer ∷ [])

    outer_length : length first.scope.outer ≡ length w.scope.outer + 1
    outer_length = length-append w.scope.outer (around_it g elaborates ends h block ks f around seen w ∷ [])

    begins : Begins ends first ks
    begins = record {
      level = nonzero (length w.scope.outer) (omega (arith, deep));
      deep = let e = outer_length in omega (arith, deep, e);
      awaits = λ name. formals_await g (inwards w.scope seen) h.formals name;
      numbers = subst (λ (n : ℕ). AreNumbered ends n ks) (sym first_length) numbers;
    }

    abbrev numbered : Numbered
    numbered = record { which = which.Local (length w.bodies.locals); heading = t }

    abbrev new : Routine
    new = routine last.scope h.name numbered around (entry g elaborates ends h block ks f around seen w).1.formals
        (body_ok g elaborates ends h block ks f around seen w ok).0

    own_is : own ≡ Some (which.Local (length w.bodies.locals))
    own_is = ap (λ (o : Option (Known g.Reported)). which_of (numbered_known o)) head

    locals_are : behind.bodies.locals ≡ slice_set last.bodies.locals (length w.bodies.locals) new
    locals_are =
        ap (λ (rs : Bodies). rs.locals)
        (ap (λ (o : Option (Known g.Reported)). with_routine last.scope h.name around
        (entry g elaborates ends h block ks f around seen w).1.formals (numbered_known o)
        (inner g elaborates ends h block ks f around seen w).1 last.bodies) head
        ∙ ap (λ (r : Result (List TypedStmt) g.Reported). with_routine last.scope h.name around
        (entry g elaborates ends h block ks f around seen w).1.formals (Some numbered) r last.bodies)
        (body_ok g elaborates ends h block ks f around seen w ok).1)

    last_length : length last.bodies.locals ≡ length w.bodies.locals + 1 + length ks
    last_length =
        let a = f.count own returns first begins.level (let d = begins.deep in omega (arith, d)) in
        let b = first_length in
        omega (arith, a, b)

    behind_length : length behind.bodies.locals ≡ length w.bodies.locals + length (length ks ∷ ks)
    behind_length = nested_count g elaborates ends h block ks f around seen w level (omega (arith, deep))

    get_new : slice_get behind.bodies.locals (length w.bodies.locals) ≡ Some new
    get_new =
        ap (λ (rs : List Routine). slice_get rs (length w.bodies.locals)) locals_are
        ∙ set_same last.bodies.locals (length w.bodies.locals) new (let e = last_length in omega (arith, e))

    get_other : (k : ℕ) → (k ≡ length w.bodies.locals → ⊥)
        → slice_get behind.bodies.locals k ≡ slice_get last.bodies.locals k
    get_other k apart = ap (λ (rs : List Routine). slice_get rs k) locals_are
        ∙ set_other last.bodies.locals (length w.bodies.locals) k new apart

    new_level : new.level ≡ suc w.scope.level
    new_level = stays.level ∙ is_deep

    module _ (known : ScopeKnown base w.scope) (z : Stage) (staged : StageTyped z) (serves : Serves g z around w behind)
        (names : NamesThere (stands_in z w.scope.level around) z.opens w.scope.level w.scope.own)
        (agrees : HeadingAgrees g w.scope seen h) where
      abbrev types : Types
      types = z.home.types

      abbrev kss : List Kinds
      kss = kinds_around z.home (suc w.scope.level) around

      agreed : (formals_of types t ≡ fs) × AreReturned types returns (result_of types t)
      agreed = agrees numbered (ap (λ (o : Option (Known g.Reported)). numbered_known o) head) types
          (λ u y e. serves.types u y ((procedure_keeps g elaborates ends h block ks f around seen w).types u y e))

      home_new : slice_get z.home.locals (length w.bodies.locals) ≡ Some new
      home_new = serves.locals (length w.bodies.locals) (omega arith) (let e = behind_length in omega (arith, e))
          ∙ get_new

      -- the frames in its block
      frames : kinds_around z.home (suc first.scope.level) own ≡ kinds_of types new ∷ kss
      frames =
          ap (λ (v : Option Which). kinds_around z.home (suc first.scope.level) v) own_is
          ∙ ap (λ (o : Option Routine). own_kinds z.home o ++ kinds_around z.home first.scope.level (around_in o))
          home_new
          ∙ ap (λ (n : ℕ). kinds_of types new ∷ kinds_around z.home n around) is_deep

      inner_serves : Serves g z own first last
      inner_serves = record {
        home = serves.home;
        types = serves.types;
        locals = λ n p q.
            let c = first_length in
            let d = last_length in
            let e = behind_length in
            serves.locals n (omega (arith, p, c)) (omega (arith, q, d, e)) ∙ get_other n (λ y. omega (arith, y, p, c));
        members = serves.members;
        outer = subst (λ (n : ℕ). BlocksThere (stands_in z first.scope.level own) z.opens n first.scope.outer)
            (sym is_deep)
            (subst (λ (k : List Kinds). BlocksThere (stands z k) z.opens (suc w.scope.level) first.scope.outer)
            (sym frames)
            (blocks_more (stands z (kinds_of types new ∷ kss)) z.opens (suc w.scope.level) w.scope.outer
            (around_it g elaborates ends h block ks f around seen w)
            (blocks_deeper z (kinds_of types new) kss z.opens w.scope.level w.scope.outer serves.outer)
            (names_deeper z (kinds_of types new) kss z.opens w.scope.level w.scope.own names)));
        withs = serves.withs;
      }

      frame : HasFrame z first.scope.level own fs last.scope.variables
      frame = record {
        rest = kss;
        kinds = frames
            ∙ ap (λ (xs : List Formal). (map (formal_kind types) xs ++ map (λ t. Kept (tree types t)) new.variables)
            ∷ kss) agreed.0
            ∙ ap (λ (n : ℕ). (map (formal_kind types) fs
            ++ map (λ t. Kept (tree types t)) (drop n last.scope.variables)) ∷ kss)
            (entered_count g w.scope seen h);
      }

      enters : Enters base ends fs first ks
      enters = record {
        begins = begins;
        deep = let e = outer_length in omega (arith, e);
        known = entered_known g base words w.scope seen h known;
        numbered = procedure_entered g w.scope seen h;
        fresh = entered_fresh g w.scope seen h serves.withs;
        locals = entered_locals g w.scope seen h;
        formed = λ m opens. formals_formed m opens g (inwards w.scope seen) h.formals;
      }

      inner_typed : AddsTyped g z first last
          × Holds (StmtsTyped (stands_in z first.scope.level own) (result_of types t) [] false)
          (inner g elaborates ends h block ks f around seen w).1
      inner_typed = b.typed fs own returns first enters (inner_ok g elaborates ends h block ks f around seen w ok) z
          staged inner_serves frame (result_of types t) agreed.1

      new_known : AreKnown types new.variables
      new_known =
          let e = b.known own returns first (inner_ok g elaborates ends h block ks f around seen w ok) enters.known in
          all_kept last.scope.types types (made_known last.scope.types types serves.types) new.variables
          (known_behind last.scope.types (entry g elaborates ends h block ks f around seen w).1.formals
          last.scope.variables e.ordered.variables)

      new_typed : BodyTyped z new
      new_typed = (
        subst (λ (k : List Kinds). StmtsTyped (stands z k) (result_of types t) [] false
            (body_ok g elaborates ends h block ks f around seen w ok).0)
            (frames ∙ ap (λ (n : ℕ). kinds_of types new ∷ kinds_around z.home n around) (sym new_level))
            (holds_at (inner g elaborates ends h block ks f around seen w).1 inner_typed.1
            (body_ok g elaborates ends h block ks f around seen w ok).0
            (body_ok g elaborates ends h block ks f around seen w ok).1),
        new_known,
      )

      typed_at : (k : ℕ) (r : Routine) → slice_get behind.bodies.locals k ≡ Some r → Placed (length w.bodies.locals) k
          → BodyTyped z r
      typed_at k r e (there q) = subst (λ (x : Routine). BodyTyped z x)
          (same_Some new r (sym get_new ∙ ap (λ (n : ℕ). slice_get behind.bodies.locals n) (sym q) ∙ e)) new_typed
      typed_at k r e (past q) = inner_typed.0 k r (let a = first_length in omega (arith, a, q))
          (sym (get_other k (λ y. omega (arith, y, q))) ∙ e)

      pub nested_typed : AddsTyped g z w behind
      nested_typed k r a e = typed_at k r e (placed (length w.bodies.locals) k a)
