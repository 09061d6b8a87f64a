-- Formals are the first variables of a procedure's scope, and stay the same where names of types mean the same.
use Rattle.std.proofs.Common.{◌≡◌, ℕ, Bool, true, false, cond, List, [], ◌∷◌, ◌++◌, length, map, drop, Some, Result, Ok, Err, refl, sym, ap, subst, ◌∙◌, append_assoc}
use Rattle.std.specs.Prelude.{slice_get}
use Rattle.std.specs.List.{fold}
use Rattle.std.specs.Option.{is_some}
use Rattle.std.proofs.lemmas.List.{append-nil, length-map}
use Rattle.m2_tree.specs.declared.name.Ident.{Ident}
use Rattle.m2_tree.specs.declared.expr.Qualified.{Qualified}
use Rattle.m2_tree.specs.declared.decl.FormalType.{FormalType}
use Rattle.m2_tree.specs.declared.decl.Heading.{Heading}
use Rattle.m2_tree.specs.declared.decl.Section.{Section}
use Rattle.typed_tree.specs.declared.meaning.Meaning.TheVariants as meaning
use Rattle.typed_tree.specs.declared.shape.Formal.{Formal}
use Rattle.typed_tree.specs.declared.types.TypeNo.{TypeNo}
use Rattle.typed_tree.specs.Names.{find_name, enter_name}
use Rattle.check_scope.specs.Elaborated.{Gathers, ◌▷◌}
use Rattle.check_scope.specs.declared.known.Known.{Known}
use Rattle.check_scope.specs.declared.known.Known.TheVariants.{Declared}
use Rattle.check_scope.specs.declared.known.Origin.TheVariants.{Here}
use Rattle.check_scope.specs.declared.scope.Scope.{Scope}
use Rattle.check_type_expr.specs.Headings.{formal_of, formal_for_each, joined_formals, with_section}
use Rattle.check_type_expr.specs.Named.{named_type}
use Rattle.check_scope.specs.Inwards.{inwards}
use Rattle.check_block.specs.Inner.{formal_kind, formal_meaning, Formals, with_formal, with_section as entered_section, formals_in, entered_procedure}
use Rattle.law_well_formed.specs.Formed.{fine}
use Rattle.law_well_formed.proofs.Names.{get_last, get_more}
use Rattle.law_programs.specs.Scopes.{formal_slot, variable_slot}
use Rattle.law_programs.specs.Carried.{slots_from, KnownSlot, NamesSlots, ScopeSlots}
use Rattle.law_programs.proofs.Carrying.{Slots, slots_stay, slots_more}

abbrev of_formal : Formal → TypeNo
of_formal f = f.of

map_both : {A B : Type 0} (f : A → B) (xs ys : List A) → map f (xs ++ ys) ≡ map f xs ++ map f ys
map_both f [] ys = refl
map_both f (x ∷ xs) ys = ap (λ zs. f x ∷ zs) (map_both f xs ys)

drop_all : {A B : Type 0} (f : A → B) (xs : List A) → drop (length xs) (map f xs) ≡ []
drop_all f [] = refl
drop_all f (x ∷ xs) = drop_all f xs

-- ---- the formals of a heading, section by section

module _ (g : Gathers) (s : Scope g.Reported) where
  abbrev So : Type 0
  So = Result (List Formal) g.Reported

  -- where a rule is broken, none is found any more
  joined_broken : (so : Result (List Formal) g.Reported) (e : g.Reported) (f : Result Formal g.Reported)
      (names : List Ident) → so ≡ Err e → (d : g.Reported) × (joined_formals g so f names ≡ Err d)
  joined_broken so e (Ok x) names h = (
    e,
    ap (λ (r : Result (List Formal) g.Reported). joined_formals g r (Ok x) names)
        h,
  )
  joined_broken so e (Err d) names h = (
    g.join e d,
    ap
        (λ (r : Result (List Formal) g.Reported). joined_formals g r (Err d) names) h,
  )

  pub stays_broken : (xs : List Section) (st : So) (e : g.Reported) → st ≡ Err e → (d : g.Reported)
      × (fold (with_section g s) st xs ≡ Err d)
  stays_broken [] st e h = (e, h)
  stays_broken (x ∷ xs) st e h = let k = joined_broken st e (formal_of g s x.is_var x.of) x.names h in
      stays_broken xs (with_section g s st x) k.0 k.1

  pub not_broken : (xs : List Section) (st : So) (e : g.Reported) (fs : List Formal) → st ≡ Err e
      → fold (with_section g s) st xs ≡ Ok fs → ⊥
  not_broken xs st e fs h q = let k = stays_broken xs st e h in let z : Err k.0 ≡ Ok fs = sym k.1 ∙ q in cc z

  -- ---- the same in the scope of the procedure

  -- so many formals are entered
  record Entered (gs : List Formal) (fs : Formals g.Reported) : Type 0 where
    types : fs.1 ≡ map of_formal gs
    names : NamesSlots (map formal_slot gs) s.level fs.0

  unless_by : (b : Bool) (slots : Slots) (name : List ℕ) (k : Known g.Reported) (ns : List (List ℕ × Known g.Reported))
      → KnownSlot slots s.level k → NamesSlots slots s.level ns
      → NamesSlots slots s.level (cond b ns (enter_name name k ns))
  unless_by true slots name k ns p q = q
  unless_by false slots name k ns p q = slots_more slots s.level name k ns p q

  one_entered : (a : Formal) (gs : List Formal) (fs : Formals g.Reported) (x : Ident) → Entered gs fs
      → Entered (gs ++ a ∷ []) (with_formal s.level (Ok a) fs x)
  one_entered a gs fs x h =
      let slots : Slots = map formal_slot (gs ++ a ∷ []) in
      let more : slots ≡ map formal_slot gs ++ formal_slot a ∷ [] = map_both formal_slot gs (a ∷ []) in
      let count : length fs.1 ≡ length (map formal_slot gs) = ap (λ (ts : List TypeNo). length ts) h.types
      ∙ length-map gs of_formal ∙ sym (length-map gs formal_slot) in
      let at : slice_get slots (length fs.1) ≡ Some (formal_slot a) =
      ap (λ (us : Slots). slice_get us (length fs.1)) more
      ∙ ap (λ (n : ℕ). slice_get (map formal_slot gs ++ formal_slot a ∷ []) n) count
      ∙ get_last (map formal_slot gs) (formal_slot a) in
      record {
        types = ap (λ (ts : List TypeNo). ts ++ a.of ∷ []) h.types ∙ sym (map_both of_formal gs (a ∷ []));
        names = unless_by (is_some (find_name x.name fs.0)) slots x.name
            (Declared Here (formal_meaning s.level (length fs.1) (Ok a))) fs.0
            (fine (meaning.Local (record { level = s.level; number = length fs.1; kind = formal_kind a; of = a.of }))
            (refl, at))
            (slots_stay (map formal_slot gs) slots s.level
            (λ n t e. subst (λ (us : Slots). slice_get us n ≡ Some t) (sym more)
            (get_more (map formal_slot gs) (formal_slot a ∷ []) n t e)) fs.0 h.names);
      }

  names_entered : (a : Formal) (names : List Ident) (gs : List Formal) (fs : Formals g.Reported) → Entered gs fs
      → Entered (gs ++ formal_for_each a names) (fold (with_formal s.level (Ok a)) fs names)
  names_entered a [] gs fs h = subst (λ (hs : List Formal). Entered hs fs) (sym (append-nil gs)) h
  names_entered a (x ∷ xs) gs fs h =
      subst (λ (hs : List Formal). Entered hs (fold (with_formal s.level (Ok a)) (with_formal s.level (Ok a) fs x) xs))
      (append_assoc gs (a ∷ []) (formal_for_each a xs))
      (names_entered a xs (gs ++ a ∷ []) (with_formal s.level (Ok a) fs x) (one_entered a gs fs x h))

  abbrev the_ok : List Formal → Result (List Formal) g.Reported
  the_ok fs = Ok fs

  sections_entered : (xs : List Section) (st : So) (gs : List Formal) (fs : Formals g.Reported) (hs : List Formal)
      → st ≡ Ok gs → Entered gs fs → fold (with_section g s) st xs ≡ Ok hs
      → Entered hs (fold (entered_section g s) fs xs)
  sections_entered [] st gs fs hs e h q = let z : the_ok gs ≡ the_ok hs = sym e ∙ q in let w : gs ≡ hs = cc in
      subst (λ (ks : List Formal). Entered ks fs) w h
  sections_entered (x ∷ xs) st gs fs hs e h q =
      by (formal_of g s x.is_var x.of) refl (λ ks now. sections_entered xs (with_section g s st x) ks
      (entered_section g s fs x) hs now) where
        by : (f : Result Formal g.Reported) → formal_of g s x.is_var x.of ≡ f
            → ((ks : List Formal) → with_section g s st x ≡ Ok ks → Entered ks (entered_section g s fs x)
            → fold (with_section g s) (with_section g s st x) xs ≡ Ok hs
            → Entered hs (fold (entered_section g s) (entered_section g s fs x) xs))
            → Entered hs (fold (entered_section g s) fs (x ∷ xs))
        by (Err d) p on =
            let broken : joined_formals g st (formal_of g s x.is_var x.of) x.names ≡ Err d =
            ap (λ (r : Result (List Formal) g.Reported). joined_formals g r (formal_of g s x.is_var x.of) x.names) e
            ∙ ap (λ (r : Result Formal g.Reported). joined_formals g (Ok gs) r x.names) p in
            absurd (not_broken xs (with_section g s st x) d hs broken q)
        by (Ok a) p on =
            let next : joined_formals g st (formal_of g s x.is_var x.of) x.names
            ≡ Ok (gs ++ formal_for_each a x.names) =
            ap (λ (r : Result (List Formal) g.Reported). joined_formals g r (formal_of g s x.is_var x.of) x.names) e
            ∙ ap (λ (r : Result Formal g.Reported). joined_formals g (Ok gs) r x.names) p in
            on (gs ++ formal_for_each a x.names) next
            (subst (λ (r : Result Formal g.Reported). Entered (gs ++ formal_for_each a x.names)
            (fold (with_formal s.level r) fs x.names)) (sym p) (names_entered a x.names gs fs h)) q

  pub formals_entered : (xs : List Section) (hs : List Formal) → fold (with_section g s) (Ok []) xs ≡ Ok hs
      → ((formals_in g s xs).1 ≡ map of_formal hs) × NamesSlots (map formal_slot hs) s.level (formals_in g s xs).0
  formals_entered xs hs q =
      let k : Entered hs (formals_in g s xs) =
      sections_entered xs (Ok []) [] ([], []) hs refl (record { types = refl; names = tt }) q in
      (k.types, k.names)

pub formals_are_slots : (g : Gathers) (s : Scope g.Reported) (seen : ℕ) (h : Heading) (fs : List Formal)
    → fold (with_section g (inwards s seen)) (Ok []) h.formals ≡ Ok fs
    → let e = (entered_procedure g s seen h).0 in (e.variables ≡ map (λ (f : Formal). f.of) fs) × ScopeSlots (Some fs) e
formals_are_slots g s seen h fs q =
    let k = formals_entered g (inwards s seen) h.formals fs q in
    let e : Scope g.Reported = (entered_procedure g s seen h).0 in
    let none : slots_from fs e.variables ≡ map formal_slot fs =
    ap (λ (ts : List TypeNo). map formal_slot fs ++ map variable_slot (drop (length fs) ts)) k.0
    ∙ ap (λ (ts : List TypeNo). map formal_slot fs ++ map variable_slot ts) (drop_all of_formal fs)
    ∙ append-nil (map formal_slot fs)
    in
    (k.0, subst (λ (us : Slots). NamesSlots us e.level e.own) (sym none) k.1)

-- ---- names of types that mean the same

module _ (g : Gathers) (a b : Scope g.Reported)
    (same : (q : Qualified) (t : TypeNo) → named_type g a q ≡ Ok t → named_type g b q ≡ Ok t) where
  abbrev formal_with : Bool → FormalType → Result TypeNo g.Reported → Result Formal g.Reported
  formal_with v f r = r ▷ λ t. Ok (record { is_var = v; is_open = f.is_open; of = t })

  formal_by : (v : Bool) (f : FormalType) (x : Formal) (r : Result TypeNo g.Reported) → named_type g a f.of ≡ r
      → formal_with v f r ≡ Ok x → formal_with v f (named_type g b f.of) ≡ Ok x
  formal_by v f x (Ok t) e q = ap (formal_with v f) (same f.of t e) ∙ q
  formal_by v f x (Err d) e q = absurd cc

  formal_stays : (v : Bool) (f : FormalType) (x : Formal) → formal_of g a v f ≡ Ok x → formal_of g b v f ≡ Ok x
  formal_stays v f x q = formal_by v f x (named_type g a f.of) refl q

  sections_stay : (xs : List Section) (st ts : So g a) (gs fs : List Formal) → st ≡ Ok gs → ts ≡ Ok gs
      → fold (with_section g a) st xs ≡ Ok fs → fold (with_section g b) ts xs ≡ Ok fs
  sections_stay [] st ts gs fs e d q = d ∙ (sym e ∙ q)
  sections_stay (x ∷ xs) st ts gs fs e d q =
      by (formal_of g a x.is_var x.of) refl (λ ks one two. sections_stay xs (with_section g a st x)
      (with_section g b ts x) ks fs one two) where
        by : (f : Result Formal g.Reported) → formal_of g a x.is_var x.of ≡ f
            → ((ks : List Formal) → with_section g a st x ≡ Ok ks → with_section g b ts x ≡ Ok ks
            → fold (with_section g a) (with_section g a st x) xs ≡ Ok fs
            → fold (with_section g b) (with_section g b ts x) xs ≡ Ok fs)
            → fold (with_section g b) ts (x ∷ xs) ≡ Ok fs
        by (Err c) p on =
            let broken : joined_formals g st (formal_of g a x.is_var x.of) x.names ≡ Err c =
            ap (λ (r : Result (List Formal) g.Reported). joined_formals g r (formal_of g a x.is_var x.of) x.names) e
            ∙ ap (λ (r : Result Formal g.Reported). joined_formals g (Ok gs) r x.names) p in
            absurd (not_broken g a xs (with_section g a st x) c fs broken q)
        by (Ok y) p on =
            let one : joined_formals g st (formal_of g a x.is_var x.of) x.names ≡ Ok (gs ++ formal_for_each y x.names) =
            ap (λ (r : Result (List Formal) g.Reported). joined_formals g r (formal_of g a x.is_var x.of) x.names) e
            ∙ ap (λ (r : Result Formal g.Reported). joined_formals g (Ok gs) r x.names) p in
            let two : joined_formals g ts (formal_of g b x.is_var x.of) x.names ≡ Ok (gs ++ formal_for_each y x.names) =
            ap (λ (r : Result (List Formal) g.Reported). joined_formals g r (formal_of g b x.is_var x.of) x.names) d
            ∙ ap (λ (r : Result Formal g.Reported). joined_formals g (Ok gs) r x.names) (formal_stays x.is_var x.of y p)
            in
            on (gs ++ formal_for_each y x.names) one two q

  pub formals_stay : (xs : List Section) (fs : List Formal) → fold (with_section g a) (Ok []) xs ≡ Ok fs
      → fold (with_section g b) (Ok []) xs ≡ Ok fs
  formals_stay xs fs q = sections_stay xs (Ok []) (Ok []) [] fs refl refl q
