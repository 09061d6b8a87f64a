-- Where the block of a procedure begins: with its formals, under their numbers.
use Rattle.std.proofs.Common.{◌≡◌, ℕ, zero, suc, ◌+◌, ◌≤◌, ◌<◌, ◌⊎◌, inl, inr, Bool, true, false, cond, List, [], ◌∷◌, ◌++◌, length, map, Some, Result, Ok, Err, refl, sym, ap, subst, ◌∙◌, arith}
use Rattle.std.specs.Prelude.{slice_get}
use Rattle.std.specs.List.{fold}
use Rattle.std.specs.Option.{is_some}
use Rattle.std.proofs.lemmas.List.{length-append}
use Rattle.m2_tree.specs.declared.name.Ident.{Ident}
use Rattle.m2_tree.specs.declared.decl.Heading.{Heading}
use Rattle.m2_tree.specs.declared.decl.Section.{Section}
use Rattle.typed_tree.specs.declared.meaning.Meaning.{Meaning}
use Rattle.typed_tree.specs.declared.meaning.Meaning.TheVariants as meaning
use Rattle.typed_tree.specs.declared.meaning.LocalVariable.{LocalVariable}
use Rattle.typed_tree.specs.declared.shape.Formal.{Formal}
use Rattle.typed_tree.specs.declared.types.TypeNo.{TypeNo}
use Rattle.typed_tree.specs.Names.{find_name, enter_name}
use Rattle.check_scope.specs.Elaborated.{Gathers}
use Rattle.check_scope.specs.declared.known.Known.{Known}
use Rattle.check_scope.specs.declared.known.Known.TheVariants.{Later, Ahead, Begun, Headed, Declared}
use Rattle.check_scope.specs.declared.known.Origin.TheVariants.{Here}
use Rattle.check_scope.specs.declared.scope.Scope.{Scope}
use Rattle.check_type_expr.specs.Headings.{formal_of}
use Rattle.check_scope.specs.Inwards.{inwards}
use Rattle.check_block.specs.Inner.{formal_kind, formal_meaning, unless_found, Formals, with_formal, with_section, formals_in, entered_procedure}
use Rattle.law_well_formed.specs.Formed.{fine, broken}
use Rattle.law_well_formed.proofs.Basics.{holds_weaker}
use Rattle.law_well_formed.proofs.Names.{get_more, get_last}
use Rattle.law_well_formed.specs.FormedNumbers.{Lists, LocalNumbered, MeaningNumbered, KnownNumbered, NamesNumbered, IsNumbered, IsFormal, IsBehind, with_one, with_names, with_formals_of, all_formals}
use Rattle.law_well_formed.proofs.NumbersGrowth.{names_entered}

module _ (level home : ℕ) (procedures : List TypeNo) where
  abbrev lists : List TypeNo → Lists
  lists ts = record { level = level; home = home; variables = ts; procedures = procedures }

  abbrev types_of : List Formal → List TypeNo
  types_of fs = map (λ (f : Formal). f.of) fs

  is_within : {A : Type 0} (xs : List A) (k : ℕ) (x : A) → slice_get xs k ≡ Some x → k < length xs
  is_within [] k x e = absurd cc
  is_within (y ∷ xs) zero x e = omega arith
  is_within (y ∷ xs) (suc k) x e = let h : k < length xs = is_within xs k x e in omega (arith, h)

  mapped : (fs : List Formal) (f : Formal) → types_of (fs ++ f ∷ []) ≡ types_of fs ++ f.of ∷ []
  mapped [] f = refl
  mapped (x ∷ fs) f = ap (λ (ts : List TypeNo). x.of ∷ ts) (mapped fs f)

  counted : (fs : List Formal) → length (types_of fs) ≡ length fs
  counted [] = refl
  counted (f ∷ fs) = let e = counted fs in omega (arith, e)

  -- each name so far is one of the formals
  abbrev Numbered : List Formal → {T : Type 0} → List (List ℕ × Known T) → Type 0
  Numbered fs es = NamesNumbered fs (lists (types_of fs)) es

  -- ---- one formal more

  module _ (fs : List Formal) (f : Formal) where
    abbrev more : List Formal
    more = fs ++ f ∷ []

    no_variable : (v : LocalVariable) → IsBehind fs v → slice_get (types_of fs) v.number ≡ Some v.of → ⊥
    no_variable v k e = let a : v.number < length (types_of fs) = is_within (types_of fs) v.number v.of e in
        let b = counted fs in let c = k.behind in omega (arith, a, b, c)

    is_formal : (v : LocalVariable) → slice_get (types_of fs) v.number ≡ Some v.of → IsFormal fs v ⊎ IsBehind fs v
        → IsFormal more v
    is_formal v e (inl k) = record {
      formal = k.formal;
      there = get_more fs (f ∷ []) v.number k.formal k.there;
      same_kind = k.same_kind;
      of = k.of;
    }
    is_formal v e (inr k) = absurd (no_variable v k e)

    still_there : (n : ℕ) (t : TypeNo) → slice_get (types_of fs) n ≡ Some t → slice_get (types_of more) n ≡ Some t
    still_there n t e = subst (λ (ts : List TypeNo). slice_get ts n ≡ Some t) (sym (mapped fs f))
        (get_more (types_of fs) (f.of ∷ []) n t e)

    meaning_still : (x : Meaning) → MeaningNumbered fs (lists (types_of fs)) x
        → MeaningNumbered more (lists (types_of more)) x
    meaning_still (meaning.Constant v) h = tt
    meaning_still (meaning.Type t n) h = tt
    meaning_still (meaning.Variable v) h = λ e. still_there v.number v.of (h e)
    meaning_still (meaning.Local v) h = record {
      level = h.level;
      there = still_there v.number v.of h.there;
      placed =
          inl (is_formal v h.there h.placed);
    }
    meaning_still (meaning.Field k) h = tt
    meaning_still (meaning.Procedure p) h = h
    meaning_still (meaning.LocalProcedure p) h = h
    meaning_still meaning.Ahead h = tt
    meaning_still (meaning.Standard k) h = tt
    meaning_still (meaning.Module k) h = tt

    known_still : {T : Type 0} (k : Known T) → KnownNumbered fs (lists (types_of fs)) k
        → KnownNumbered more (lists (types_of more)) k
    known_still Later h = tt
    known_still Ahead h = tt
    known_still Begun h = tt
    known_still (Headed r) h = holds_weaker meaning_still h
    known_still (Declared o r) h = holds_weaker meaning_still h

    names_still : {T : Type 0} (es : List (List ℕ × Known T)) → Numbered fs es → Numbered more es
    names_still [] h = tt
    names_still (e ∷ es) h = (known_still e.1 h.0, names_still es h.1)

    last_at : (n : ℕ) → n ≡ length (types_of fs) → (slice_get (types_of more) n ≡ Some f.of)
        × (slice_get more n ≡ Some f)
    last_at n e = (
      subst (λ (ts : List TypeNo). slice_get ts n ≡ Some f.of) (sym (mapped fs f))
          (subst (λ (k : ℕ). slice_get (types_of fs ++ f.of ∷ []) k ≡ Some f.of) (sym e) (get_last (types_of fs) f.of)),
      subst (λ (k : ℕ). slice_get more k ≡ Some f) (sym (e ∙ counted fs)) (get_last fs f),
    )

  unless_by : {T : Type 0} (fs : List Formal) (b : Bool) (name : List ℕ) (k : Known T) (es : List (List ℕ × Known T))
      → KnownNumbered fs (lists (types_of fs)) k → Numbered fs es → Numbered fs (cond b es (enter_name name k es))
  unless_by fs true name k es p q = q
  unless_by fs false name k es p q = names_entered fs (lists (types_of fs)) name k es p q

  -- what is known of the formals so far
  record SoFar {T : Type 0} (fs : List Formal) (so : Formals T) : Type 0 where
    same : so.1 ≡ types_of fs
    names : Numbered fs so.0

  one_begun : {T : Type 0} (f : Result Formal T) (x : Ident) (fs : List Formal) (so : Formals T) → SoFar fs so
      → SoFar (with_one fs f) (with_formal level f so x)
  one_begun (Err e) x fs so h = record {
    same = h.same;
    names =
        unless_by fs (is_some (find_name x.name so.0)) x.name (Declared Here (Err e)) so.0 (broken e) h.names;
  }
  one_begun (Ok f) x fs so h =
      let v : LocalVariable = record { level = level; number = length so.1; kind = formal_kind f; of = f.of } in
      let last = last_at fs f (length so.1) (ap (λ (ts : List TypeNo). length ts) h.same) in
      record {
        same = ap (λ (ts : List TypeNo). ts ++ f.of ∷ []) h.same ∙ sym (mapped fs f);
        names = unless_by (fs ++ f ∷ []) (is_some (find_name x.name so.0)) x.name (Declared Here (Ok (meaning.Local v)))
            so.0
            (fine (meaning.Local v) (record {
              level = refl;
              there = last.0;
              placed =
                  inl (record { formal = f; there = last.1; same_kind = refl; of = refl });
            }))
            (names_still fs f so.0 h.names);
      }

  names_begun : {T : Type 0} (f : Result Formal T) (xs : List Ident) (fs : List Formal) (so : Formals T) → SoFar fs so
      → SoFar (with_names f fs xs) (fold (with_formal level f) so xs)
  names_begun f [] fs so h = h
  names_begun f (x ∷ xs) fs so h = names_begun f xs (with_one fs f) (with_formal level f so x) (one_begun f x fs so h)

module _ (g : Gathers) where
  sections_begun : (s : Scope g.Reported) (xs : List Section) (fs : List Formal) (so : Formals g.Reported)
      → SoFar s.level s.types.home s.procedures fs so
      → SoFar s.level s.types.home s.procedures (fold (with_formals_of g s) fs xs) (fold (with_section g s) so xs)
  sections_begun s [] fs so h = h
  sections_begun s (x ∷ xs) fs so h =
      sections_begun s xs (with_formals_of g s fs x) (with_section g s so x)
      (names_begun s.level s.types.home s.procedures (formal_of g s x.is_var x.of) x.names fs so h)

  pub procedure_entered : (s : Scope g.Reported) (seen : ℕ) (h : Heading)
      → IsNumbered (all_formals g (inwards s seen) h.formals) (entered_procedure g s seen h).0
  procedure_entered s seen h =
      let inner : Scope g.Reported = inwards s seen in
      let b = sections_begun inner h.formals [] ([], []) (record { same = refl; names = tt }) in
      let fs : List Formal = all_formals g inner h.formals in
      record {
        names = subst (λ (ts : List TypeNo). NamesNumbered fs (lists inner.level inner.types.home inner.procedures ts)
            (formals_in g inner h.formals).0) (sym b.same) b.names;
        few = let e : length (formals_in g inner h.formals).1
            ≡ length (types_of inner.level inner.types.home inner.procedures fs) =
            ap (λ (ts : List TypeNo). length ts) b.same in
            let c = counted inner.level inner.types.home inner.procedures fs in omega (arith, e, c);
      }
