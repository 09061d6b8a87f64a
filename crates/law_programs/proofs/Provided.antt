-- What the bodies of a module ask for is there.
use Rattle.std.proofs.Common.{◌≡◌, ◌⊎◌, inl, inr, ℕ, zero, suc, ◌+◌, ◌<◌, ◌==◌, ◌||◌, Bool, true, false, if◌then◌else◌, List, [], ◌∷◌, ◌++◌, length, get_or, Some, refl, sym, ap, subst, ◌∙◌, append_assoc, arith}
use Rattle.std.specs.Prelude.{slice_get, All}
use Rattle.std.specs.List.{list_any, flat_map, AllByRecursion}
use Rattle.std.proofs.lemmas.Bool.{and_from, or_left, or_right, eqb-true, eq-eqb}
use Rattle.std.proofs.lemmas.List.{length-append, append-nil, get_or-append-add, get_or_append_left}
use Rattle.std.proofs.lemmas.List.Elements.{recursion_from_All}
use Rattle.std.proofs.lemmas.List.Folds.{list_any-append}
use Rattle.std.proofs.lemmas.Option.{same_Some}
use Rattle.typed_tree.specs.declared.statement.TypedStmt.{TypedStmt}
use Rattle.typed_tree.specs.declared.typed_module.Routine.{Routine}
use Rattle.typed_tree.specs.declared.typed_module.TypedModule.{TypedModule}
use Rattle.typed_tree.specs.declared.typed_module.Which.{Which}
use Rattle.typed_tree.specs.declared.typed_module.Which.TheVariants as which
use Rattle.layout_storage.specs.Texts.{Texts, characters, body_texts, routine_texts, which_texts, routines_texts, module_texts, is_which, texts_before}
use Rattle.def_scheme.specs.Functions.{routine_of}
use Rattle.def_scheme.specs.Modules.{all_characters}
use Rattle.def_scheme.specs.Signatures.{Signature, Signatures, signatures_needed, same_result, is_same, is_among, of_step, of_routine}
use Rattle.law_modules.specs.Linked.{Program, text}
use Rattle.law_modules.proofs.Stores.{text_length}
use Rattle.law_simulation.specs.Frames.{Kinds, kinds_of}
use Rattle.law_simulation.specs.TreesTyped.{Context}
use Rattle.law_simulation.specs.Linked.{text_of, environment_of}
use Rattle.law_simulation.specs.Modules.{IsTypedModule}
use Rattle.law_programs.specs.Wanted.{TextStands, TextsStand, AreNeeded, Has}
use Rattle.law_programs.specs.Asked.{wanted_by}
use Rattle.law_well_formed.proofs.Whole.{types_known}
use Rattle.law_programs.specs.TypingBodies.{Stage, stands, AreBodiesTyped}
use Rattle.law_programs.specs.TypingWants.{AreOrdered, IsProvided, AreProvided, stage_at}

-- ---- texts

pub characters_append : (ts us : Texts) → all_characters (ts ++ us) ≡ all_characters ts ++ all_characters us
characters_append [] us = refl
characters_append (t ∷ ts) us = ap (λ (cs : List ℕ). t ++ cs) (characters_append ts us)
    ∙ sym (append_assoc t (all_characters ts) (all_characters us))

module _ (x : Context) where
  text_stands : (before t rest : List ℕ) → x.characters ≡ before ++ (t ++ rest) → TextStands x (length before) t
  text_stands before t rest q = record {
    fits =
        let e : length x.characters ≡ length (before ++ (t ++ rest)) = ap (λ (cs : List ℕ). length cs) q in
        let f : length (before ++ (t ++ rest)) ≡ length before + length (t ++ rest) =
        length-append before (t ++ rest) in
        let k : length (t ++ rest) ≡ length t + length rest = length-append t rest in
        omega (arith, e, f, k);
    same = λ j l. ap (λ (cs : List ℕ). get_or cs (length before + j) 0) q ∙ get_or-append-add before (t ++ rest) j 0
        ∙ get_or_append_left t rest 0 j l;
  }

  texts_stand : (before : List ℕ) (ts : Texts) (rest : List ℕ) → x.characters ≡ before ++ (all_characters ts ++ rest)
      → TextsStand x (length before) ts
  texts_stand before [] rest q = tt
  texts_stand before (t ∷ ts) rest q =
      let e : x.characters ≡ before ++ (t ++ (all_characters ts ++ rest)) = q
      ∙ ap (λ (cs : List ℕ). before ++ cs) (append_assoc t (all_characters ts) rest) in (
        text_stands before t (all_characters ts ++ rest) e,
        subst (λ (n : ℕ). TextsStand x n ts) (length-append before t)
            (texts_stand (before ++ t) ts rest (e ∙ sym (append_assoc before t (all_characters ts ++ rest)))),
      )

-- texts among those of a module stand behind those before them
module _ (z : Stage) (kinds : List Kinds) where
  part_stands : (before ts behind : Texts) → module_texts z.home ≡ before ++ (ts ++ behind)
      → TextsStand (stands z kinds) (characters before) ts
  part_stands before ts behind q =
      let e : text z.home ≡ all_characters before ++ (all_characters ts ++ all_characters behind)
      = ap all_characters q ∙ characters_append before (ts ++ behind)
      ∙ ap (λ (cs : List ℕ). all_characters before ++ cs) (characters_append ts behind) in
      subst (λ (n : ℕ). TextsStand (stands z kinds) n ts) (text_length before)
      (texts_stand (stands z kinds) (all_characters before) ts (all_characters behind) e)

which_is : (w v : Which) → is_which w v ≡ true → w ≡ v
which_is (which.Module m) (which.Module n) e = ap which.Module (eqb-true m n e)
which_is (which.Module m) (which.Local n) e = absurd cc
which_is (which.Local m) (which.Module n) e = absurd cc
which_is (which.Local m) (which.Local n) e = ap which.Local (eqb-true m n e)

module _ (m : TypedModule) (w : Which) where
  -- the texts of a procedure in the order stand behind those before it
  ordered_texts : (vs : List Which) → list_any (is_which w) vs ≡ true → (behind : Texts)
      × (flat_map (which_texts m) vs ≡ texts_before m w vs ++ (which_texts m w ++ behind))
  ordered_texts [] e = absurd cc
  ordered_texts (v ∷ vs) e = by (is_which w v) refl e (λ k. ordered_texts vs k) where
    by : (b : Bool) → is_which w v ≡ b → (b || list_any (is_which w) vs) ≡ true
        → (list_any (is_which w) vs ≡ true → (behind : Texts)
        × (flat_map (which_texts m) vs ≡ texts_before m w vs ++ (which_texts m w ++ behind)))
        → (behind : Texts) × (which_texts m v
        ++ flat_map (which_texts m) vs ≡ (if b then [] else which_texts m v ++ texts_before m w vs)
        ++ (which_texts m w ++ behind))
    by true i k further = (
      flat_map (which_texts m) vs,
      ap
          (λ (u : Which). which_texts m u ++ flat_map (which_texts m) vs) (sym (which_is w v i)),
    )
    by false i k further =
        let rest = further k in (
          rest.0,
          ap (λ (ts : Texts). which_texts m v ++ ts) rest.1
              ∙ sym (append_assoc (which_texts m v) (texts_before m w vs) (which_texts m w ++ rest.0)),
        )

pub which_texts_are : (m : TypedModule) (w : Which) (r : Routine) → routine_of m w ≡ Some r
    → which_texts m w ≡ body_texts r.body
which_texts_are m (which.Module n) r e = ap routine_texts e
which_texts_are m (which.Local n) r e = ap routine_texts e

-- ---- the types of calls

same_itself : (b : Bool) → same_result b b ≡ true
same_itself true = refl
same_itself false = refl

is_itself : (s : Signature) → is_same s s ≡ true
is_itself s = and_from (s.arguments == s.arguments) (same_result s.result s.result)
    (eq-eqb s.arguments s.arguments refl) (same_itself s.result)

-- all of these are among those
abbrev AreAmong : Signatures → Signatures → Type 0
AreAmong ss zs = (s : Signature) → is_among ss s ≡ true → is_among zs s ≡ true

among_first : (ss us : Signatures) → AreAmong ss (ss ++ us)
among_first ss us s e = list_any-append (is_same s) ss us ∙ or_left (is_among ss s) (is_among us s) e

among_second : (ss us : Signatures) → AreAmong us (ss ++ us)
among_second ss us s e = list_any-append (is_same s) ss us ∙ or_right (is_among ss s) (is_among us s) e

among_all : {A : Type 0} (f : A → Signatures) (xs : List A) (n : ℕ) (x : A) → slice_get xs n ≡ Some x
    → AreAmong (f x) (flat_map f xs)
among_all f [] n x e s h = absurd cc
among_all f (y ∷ xs) zero x e s h = among_first (f y) (flat_map f xs) s
    (ap (λ (ss : Signatures). is_among ss s) (ap f (same_Some y x e)) ∙ h)
among_all f (y ∷ xs) (suc n) x e s h = among_second (f y) (flat_map f xs) s (among_all f xs n x e s h)

are_needed : (x : Context) (ss : Signatures) → AreAmong ss (signatures_needed x.home) → AreNeeded x ss
are_needed x [] k = tt
are_needed x (s ∷ ss) k = (
  k s (or_left (is_same s s) (is_among ss s) (is_itself s)),
  are_needed x ss
      (λ z e. k z (or_right (is_same z s) (is_among ss z) e)),
)

module _ (m : TypedModule) where
  abbrev own_calls : Signatures
  own_calls = flat_map (of_step m) m.body

  abbrev local_calls : Signatures
  local_calls = flat_map (of_routine m) m.locals

  abbrev outer_calls : Signatures
  outer_calls = flat_map (of_routine m) m.procedures

  body_among : AreAmong own_calls (signatures_needed m)
  body_among s e = among_second outer_calls (local_calls ++ own_calls) s (among_second local_calls own_calls s e)

  -- the calls of a procedure, behind its own type
  routine_among : (w : Which) (r : Routine) → routine_of m w ≡ Some r
      → AreAmong (flat_map (of_step m) r.body) (signatures_needed m)
  routine_among (which.Module n) r e s h =
      among_first outer_calls (local_calls ++ own_calls) s
      (among_all (of_routine m) m.procedures n r e s (or_right _ (is_among (flat_map (of_step m) r.body) s) h))
  routine_among (which.Local n) r e s h =
      among_second outer_calls (local_calls ++ own_calls) s (among_first local_calls own_calls s
      (among_all (of_routine m) m.locals n r e s (or_right _ (is_among (flat_map (of_step m) r.body) s) h)))

-- ---- bodies

module _ (z : Stage) (ordered : AreOrdered z.home) where
  module _ (w : Which) (r : Routine) (is : routine_of z.home w ≡ Some r) (kinds : List Kinds) where
    routine_texts_stand : (list_any (is_which w) z.home.order ≡ true) ⊎ (r.body ≡ [])
        → TextsStand (stands z kinds) (text_of z.home w) (body_texts r.body)
    routine_texts_stand (inl e) =
        let at = ordered_texts z.home w z.home.order e in
        subst (λ (ts : Texts). TextsStand (stands z kinds) (text_of z.home w) ts) (which_texts_are z.home w r is)
        (part_stands z kinds (texts_before z.home w z.home.order) (which_texts z.home w)
        (at.0 ++ body_texts z.home.body)
        (ap (λ (ts : Texts). ts ++ body_texts z.home.body) at.1
        ∙ append_assoc (texts_before z.home w z.home.order) (which_texts z.home w ++ at.0) (body_texts z.home.body)
        ∙ ap (λ (ts : Texts). texts_before z.home w z.home.order ++ ts)
        (append_assoc (which_texts z.home w) at.0 (body_texts z.home.body))))
    routine_texts_stand (inr e) = subst (λ (ss : List TypedStmt). TextsStand (stands z kinds) (text_of z.home w)
        (body_texts ss)) (sym e) tt

    routine_provided : Has (stands z kinds) (text_of z.home w) (wanted_by z.home r.body)
    routine_provided = record {
      texts = routine_texts_stand (ordered w r is);
      signatures = are_needed (stands z kinds) (flat_map (of_step z.home) r.body) (routine_among z.home w r is);
    }

  body_provided : IsProvided z (characters (routines_texts z.home)) z.home.body
  body_provided kinds = record {
    texts = part_stands z kinds (routines_texts z.home) (body_texts z.home.body) []
        (ap (λ (ts : Texts). routines_texts z.home ++ ts) (sym (append-nil (body_texts z.home.body))));
    signatures = are_needed (stands z kinds) (flat_map (of_step z.home) z.home.body) (body_among z.home);
  }

  pub bodies_provided : AreProvided z
  bodies_provided = record { procedures = λ w r is kinds. routine_provided w r is kinds; body = body_provided }

-- ---- modules

module _ (p : Program) (pages place : ℕ) (m : TypedModule) (opens : ℕ → Bool)
    (typed : AreBodiesTyped (stage_at p pages place m opens) m.body)
    (provided : AreProvided (stage_at p pages place m opens)) where
  pub module_typed : IsTypedModule p pages place m
  module_typed = record {
    procedures = λ w r is. (
      text_of m w + characters (body_texts r.body),
      (typed.procedures w r is).0 (text_of m w)
          (provided.procedures w r is (kinds_of m.types r ∷ environment_of m r)),
    );
    body = (
      characters (routines_texts m) + characters (body_texts m.body),
      typed.body (characters (routines_texts m))
          (provided.body []),
    );
    kept = λ w r is. types_known m.types r.variables (typed.procedures w r is).1;
    variables = types_known m.types m.variables typed.variables;
  }
