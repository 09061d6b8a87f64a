-- Behind the declarations of a definition its variables and procedures stand in the order of their numbers.
use Rattle.std.proofs.Common.{◌≡◌, ℕ, Bool, true, false, ◌||◌, cond, List, [], ◌∷◌, ◌++◌, length, Option, Some, None, Result, Ok, Err, refl, sym, ap, subst, ◌∙◌}
use Rattle.std.specs.Prelude.{map}
use Rattle.std.specs.List.{fold, AllByRecursion}
use Rattle.std.proofs.lemmas.List.{append-nil, append_assoc}
use Rattle.std.proofs.lemmas.List.Folds.{list_any-append}
use Rattle.m2_rule.specs.declared.rule.Rule.TheVariants as rule
use Rattle.m2_tree.specs.declared.name.Ident.{Ident}
use Rattle.m2_tree.specs.declared.decl.Def.{Def}
use Rattle.m2_tree.specs.declared.decl.Def.TheVariants as def
use Rattle.m2_tree.specs.declared.decl.Heading.{Heading}
use Rattle.m2_tree.specs.declared.decl.Module.{Module}
use Rattle.m2_tree.specs.declared.decl.Variables.{Variables}
use Rattle.typed_tree.specs.declared.meaning.Meaning.TheVariants as meaning
use Rattle.typed_tree.specs.declared.table.Table.{Table}
use Rattle.typed_tree.specs.declared.types.TypeNo.{TypeNo}
use Rattle.m2_tree.specs.Names.{same_name}
use Rattle.typed_tree.specs.Names.{find_name, enter_name}
use Rattle.check_scope.specs.Elaborated.{Gathers, report, beside}
use Rattle.check_scope.specs.Scopes.{State, is_free, with_known, heading_means, begin_name, is_begun, mark_name}
use Rattle.check_scope.specs.declared.known.Origin.TheVariants.{Here}
use Rattle.check_scope.specs.declared.known.Known.{Known}
use Rattle.check_scope.specs.declared.known.Known.TheVariants.{Later, Ahead, Begun, Headed, Declared}
use Rattle.check_scope.specs.declared.scope.Scope.{Scope}
use Rattle.check_type_expr.specs.Headings.{heading_of, names_of}
use Rattle.check_type_expr.specs.Made.{nothing_of, with_made, type_of}
use Rattle.check_definition.specs.Compiled.{declared_in}
use Rattle.check_definition.specs.Declare.{begun_name, with_variable_type, finished_variable, with_constant, with_type, with_variables, procedure_meaning, with_procedure_type, declared_procedure, with_procedure, with_def}
use Rattle.check_definition.specs.Importing.{with_import}
use Rattle.check_definition.specs.Marking.{marked_later, marked_constant, marked_type, marked_variables, marked_def}
use Rattle.check_definition.specs.Predeclared.{first_scope}
use Rattle.law_folds.proofs.Orders.{fact}
use Rattle.law_folds.proofs.ImportSteps.{KeepsImports, imports_keep}
use Rattle.law_folds.proofs.AgainSteps.{definition_reported}
use Rattle.law_well_formed.proofs.ImportsLists.{same_refl, same_is, or_left, or_right}
use Rattle.law_well_formed.specs.FormedScopes.{holds_of}
use Rattle.law_well_formed.proofs.Names.{found_self}
use Rattle.law_well_formed.proofs.HeadingsLists.{found_other}
use Rattle.law_well_formed.proofs.Order.{has, mark_key, has_more, keys, keys_entered, Distinct, distinct_entered, is_taken, taken_entered, now_taken, AllTaken}
use Rattle.law_well_formed.proofs.Order as order
use Rattle.law_well_formed.proofs.TablesSteps.{mark_more, Goes, ◌⨾◌, fold_goes, made_goes, type_of_goes, constant_goes, type_decl_goes, begun_all_go, variables_go, import_goes}
use Rattle.law_well_formed.proofs.Takes.{beside_left, beside_right, then_ok, all_marked, marked_keys, name_covers, Keeps, keeps_then, def_keeps, defs_keep, constants_all, types_all, variables_all, def_reported, defs_reported}
use Rattle.law_programs.proofs.Done.{is_settled, SettledIn, AllSettled, free_unsettled, begun_unsettled, settled_kept, behind_at}
use Rattle.law_programs.proofs.Counting.{Counts, counts_kept, variable_counts, procedure_counts}
use Rattle.law_programs.proofs.GraphsSteps.{Stays, same_stays, made_stays, all_marks, begun_stays, type_of_stays, NoneBegun, Ends, stays_end, constants_end, types_end, import_stays}

-- ---- lists

cond_true : {X : Type 0} (b : Bool) (x y : X) → b ≡ true → cond b x y ≡ x
cond_true true x y e = refl
cond_true false x y e = absurd cc

or_none : (a b : Bool) → (a || b) ≡ false → (a ≡ false) × (b ≡ false)
or_none true b h = absurd cc
or_none false b h = (refl, h)

or_both : (a b : Bool) → a ≡ false → b ≡ false → (a || b) ≡ false
or_both true b h k = absurd cc
or_both false b h k = k

-- what stands behind stands behind both
behind : (ks bs cs more rest : List (List ℕ)) → ks ≡ bs ++ rest → bs ≡ cs ++ more → ks ≡ cs ++ (more ++ rest)
behind ks bs cs more rest e f = e ∙ (ap (λ (ls : List (List ℕ)). ls ++ rest) f ∙ append_assoc cs more rest)

abbrev ids : List Ident → List (List ℕ)
ids xs = map (λ x. x.name) xs

-- each name stands once
abbrev Once : List Ident → Type 0
Once [] = Unit {0}
Once (x ∷ xs) = (has x.name (ids xs) ≡ false) × Once xs

has_last : (y x : List ℕ) (ks : List (List ℕ)) → has y (ks ++ x ∷ []) ≡ true → (has y ks ≡ false → same_name y x ≡ true)
has_last y x ks h n = by (has y ks) (same_name y x) n
    (sym (list_any-append (λ (k : List ℕ). same_name y k) ks (x ∷ [])) ∙ h) where
      by : (a b : Bool) → a ≡ false → (a || (b || false)) ≡ true → b ≡ true
      by true b e f = absurd cc
      by false true e f = refl
      by false false e f = absurd cc

has_middle : (name : List ℕ) (pre post : List (List ℕ)) → has name (pre ++ name ∷ post) ≡ true
has_middle name pre post = list_any-append (λ (k : List ℕ). same_name name k) pre (name ∷ post)
    ∙ or_right (has name pre) (has name (name ∷ post)) (or_left (same_name name name) (has name post) (same_refl name))

module _ {T : Type 0} where
  -- ---- names that are taken, and not begun, are settled

  taken_settled : (o : Option (Known T)) → order.holds_of is_taken o ≡ true → is_begun o ≡ false
      → holds_of is_settled o ≡ true
  taken_settled None e b = absurd cc
  taken_settled (Some Later) e b = absurd cc
  taken_settled (Some Ahead) e b = absurd cc
  taken_settled (Some Begun) e b = absurd cc
  taken_settled (Some (Headed r)) e b = refl
  taken_settled (Some (Declared o r)) e b = refl

  new_name : (ks : List (List ℕ)) (name : List ℕ) (own : List (List ℕ × Known T)) → AllSettled ks own
      → holds_of is_settled (find_name name own) ≡ false → has name ks ≡ false
  new_name ks name own all u = by (has name ks) refl where
    by : (b : Bool) → has name ks ≡ b → b ≡ false
    by false e = refl
    by true e = absurd (let t : holds_of is_settled (find_name name own) ≡ true = all name e in cc)

  settled_taken : (o : Option (Known T)) → holds_of is_settled o ≡ true → order.holds_of is_taken o ≡ true
  settled_taken None e = absurd cc
  settled_taken (Some Later) e = absurd cc
  settled_taken (Some Ahead) e = absurd cc
  settled_taken (Some Begun) e = absurd cc
  settled_taken (Some (Headed r)) e = refl
  settled_taken (Some (Declared o r)) e = refl

  -- ---- names that are marked

  later_keys : (xs : List Ident) (s : Scope T) → Once xs → AllByRecursion (λ x. has x.name (keys s.own) ≡ false) xs
      → keys (fold marked_later s xs).own ≡ keys s.own ++ ids xs
  later_keys [] s o n = sym (append-nil (keys s.own))
  later_keys (x ∷ xs) s o n =
      let one : keys (mark_name x Later s).own ≡ keys s.own ++ x.name ∷ [] = marked_keys x Later s
      ∙ ap (λ (b : Bool). cond b (keys s.own) (keys s.own ++ x.name ∷ [])) n.0 in
      later_keys xs (marked_later s x) o.1 (subst
      (λ (ks : List (List ℕ)). AllByRecursion (λ y. has y.name ks ≡ false) xs) (sym one) (all_new xs o.0 n.1))
      ∙ (ap (λ (ks : List (List ℕ)). ks ++ ids xs) one ∙ append_assoc (keys s.own) (x.name ∷ []) (ids xs))
    where
      all_new : (ys : List Ident) → has x.name (ids ys) ≡ false
          → AllByRecursion (λ y. has y.name (keys s.own) ≡ false) ys
          → AllByRecursion (λ y. has y.name (keys s.own ++ x.name ∷ []) ≡ false) ys
      all_new [] h p = tt
      all_new (y ∷ ys) h p =
          let k = or_none (same_name x.name y.name) (has x.name (ids ys)) h in
          (has_more y.name (keys s.own) x.name p.0 (order.other_way x.name y.name k.0), all_new ys k.1 p.1)

module _ (g : Gathers) where
  -- ---- names of variables are begun

  begun_reported : (names : List Ident) (st : State (Unit {0}) g.Reported) → (fold (begun_name g) st names).1 ≡ Ok tt
      → st.1 ≡ Ok tt
  begun_reported [] st e = e
  begun_reported (x ∷ xs) st e = beside_left g st.1 _ (begun_reported xs (begun_name g st x) e)

  free_if : (b : Bool) (s t : Scope g.Reported) (name : Ident)
      → (cond {A = State (Unit {0}) g.Reported} b (t, Ok tt) (s, report g name.pos rule.DeclaredTwice)).1 ≡ Ok tt
      → b ≡ true
  free_if true s t name e = refl
  free_if false s t name e = absurd cc

  abbrev AllFree : Scope g.Reported → List Ident → Type 0
  AllFree s xs = AllByRecursion (λ x. is_free (find_name x.name s.own) ≡ true) xs

  abbrev AllBegun : Scope g.Reported → List Ident → Type 0
  AllBegun s xs = AllByRecursion (λ x. is_begun (find_name x.name s.own) ≡ true) xs

  not_free : (name : List ℕ) (s : Scope g.Reported) → is_free (find_name name (enter_name name Begun s.own)) ≡ true → ⊥
  not_free name s f = let e : is_free (find_name name (enter_name name Begun s.own)) ≡ false =
      ap is_free (found_self name Begun s.own) in absurd cc

  free_apart : (name y : List ℕ) (s : Scope g.Reported) → is_free (find_name y (enter_name name Begun s.own)) ≡ true
      → same_name y name ≡ false
  free_apart name y s f = by (same_name y name) refl where
    by : (b : Bool) → same_name y name ≡ b → b ≡ false
    by false e = refl
    by true e = absurd (not_free name s (subst
        (λ (z : List ℕ). is_free (find_name z (enter_name name Begun s.own)) ≡ true) (same_is y name e) f))

  free_before : (name : List ℕ) (s : Scope g.Reported) (xs : List Ident) → AllFree (with_known name Begun s) xs
      → AllFree s xs × (has name (ids xs) ≡ false)
  free_before name s [] p = (tt, refl)
  free_before name s (x ∷ xs) p =
      let a = free_apart name x.name s p.0 in
      let rest = free_before name s xs p.1 in (
        (sym (ap is_free (found_other name Begun s.own x.name a)) ∙ p.0, rest.0),
        or_both (same_name name x.name) (has name (ids xs)) (order.other_way x.name name a) rest.1,
      )

  record Started (s b : Scope g.Reported) (names : List Ident) : Type 0 where
    stays : Stays (ids names) s b
    begun_all : AllBegun b names
    free : AllFree s names
    once : Once names

  begun_is : (s : Scope g.Reported) (name : Ident) → is_free (find_name name.name s.own) ≡ true
      → (begin_name g s name).0 ≡ with_known name.name Begun s
  begun_is s name f = ap (λ (st : State (Unit {0}) g.Reported). st.0)
      (cond_true (is_free (find_name name.name s.own)) (with_known name.name Begun s, Ok tt)
      (s, report g name.pos rule.DeclaredTwice) f)

  wider : (x : List ℕ) (names : List (List ℕ)) (s b c : Scope g.Reported) → Stays (x ∷ []) s b → Stays names b c
      → Stays (x ∷ names) s c
  wider x names s b c p q = record {
    variables = q.variables ∙ p.variables;
    procedures = q.procedures ∙ p.procedures;
    done_same = q.done_same ∙ p.done_same;
    front = λ h. q.front (p.front h);
    settled = λ y h. q.settled y (p.settled y h);
    begun = λ y h. let k = or_none (same_name y x) (has y names) h in
        q.begun y k.1 ∙ p.begun y (ap (λ (b : Bool). b || false) k.0);
  }

  started : (names : List Ident) (st : State (Unit {0}) g.Reported) → (fold (begun_name g) st names).1 ≡ Ok tt
      → Started st.0 (fold (begun_name g) st names).0 names
  started [] st e = record { stays = same_stays [] st.0; begun_all = tt; free = tt; once = tt }
  started (x ∷ xs) st e =
      let next : State (Unit {0}) g.Reported = begun_name g st x in
      let ok : (begin_name g st.0 x).1 ≡ Ok tt = beside_right g st.1 _ (begun_reported xs next e) in
      let f : is_free (find_name x.name st.0.own) ≡ true =
      free_if (is_free (find_name x.name st.0.own)) st.0 (with_known x.name Begun st.0) x ok in
      let is : next.0 ≡ with_known x.name Begun st.0 = begun_is st.0 x f in
      let rest : Started next.0 (fold (begun_name g) next xs).0 xs = started xs next e in
      let before = free_before x.name st.0 xs (subst (λ (s : Scope g.Reported). AllFree s xs) is rest.free) in
      record {
        stays = wider x.name (ids xs) st.0 next.0 (fold (begun_name g) next xs).0 (begun_stays g st.0 x) rest.stays;
        begun_all = (
          rest.stays.begun x.name before.1
              ∙ (ap (λ (s : Scope g.Reported). is_begun (find_name x.name s.own)) is
              ∙ ap is_begun (found_self x.name Begun st.0.own)),
          rest.begun_all,
        );
        free = (f, before.0);
        once = (before.1, rest.once);
      }

  -- ---- and finished one after another

  record Finishing (s : Scope g.Reported) (pre : List (List ℕ)) (xs : List Ident) : Type 0 where
    settled : AllSettled pre s.own
    begun_all : AllBegun s xs
    once : Once xs
    post : List (List ℕ)
    keys_are : keys s.own ≡ pre ++ (ids xs ++ post)
    distinct : Distinct s.own
    others : (y : List ℕ) → has y (ids xs) ≡ false → is_begun (find_name y s.own) ≡ false
    counts : Counts s

  settled_more : (name : List ℕ) (k : Known g.Reported) (own : List (List ℕ × Known g.Reported)) (pre : List (List ℕ))
      → is_settled k ≡ true → holds_of is_settled (find_name name own) ≡ false → AllSettled pre own
      → AllSettled (pre ++ name ∷ []) (enter_name name k own)
  settled_more name k own pre s u all y h = by (has y pre) refl where
    by : (b : Bool) → has y pre ≡ b → SettledIn (enter_name name k own) y
    by true e = settled_kept y name k own u (all y e)
    by false e = subst (λ (z : List ℕ). SettledIn (enter_name name k own) z)
        (sym (same_is y name (has_last y name pre h e))) (ap (holds_of is_settled) (found_self name k own) ∙ s)

  begun_still : (name : List ℕ) (k : Known g.Reported) (s : Scope g.Reported) (xs : List Ident)
      → has name (ids xs) ≡ false → AllBegun s xs → AllBegun (with_known name k s) xs
  begun_still name k s [] h p = tt
  begun_still name k s (x ∷ xs) h p =
      let n = or_none (same_name name x.name) (has name (ids xs)) h in (
        ap is_begun (found_other name k s.own x.name (order.other_way name x.name n.0))
            ∙ p.0,
        begun_still name k s xs n.1 p.1,
      )

  module _ (t : TypeNo) where
    abbrev known_of : Scope g.Reported → Known g.Reported
    known_of s = Declared Here (Ok (meaning.Variable
        (record { home = s.types.home; number = length s.variables; of = t })))

    others_by : (s : Scope g.Reported) (x : Ident) (xs : List Ident)
        → ((y : List ℕ) → has y (ids (x ∷ xs)) ≡ false → is_begun (find_name y s.own) ≡ false) → (y : List ℕ)
        → has y (ids xs) ≡ false → is_begun (find_name y (enter_name x.name (known_of s) s.own)) ≡ false
    others_by s x xs n y h = by (same_name y x.name) refl where
      by : (b : Bool) → same_name y x.name ≡ b → is_begun (find_name y (enter_name x.name (known_of s) s.own)) ≡ false
      by true e = subst (λ (z : List ℕ). is_begun (find_name z (enter_name x.name (known_of s) s.own)) ≡ false)
          (sym (same_is y x.name e)) (ap is_begun (found_self x.name (known_of s) s.own))
      by false e = ap is_begun (found_other x.name (known_of s) s.own y e)
          ∙ n y (or_both (same_name y x.name) (has y (ids xs)) e h)

    finish_one : (s : Scope g.Reported) (pre : List (List ℕ)) (x : Ident) (xs : List Ident) → Finishing s pre (x ∷ xs)
        → Finishing (finished_variable (Ok t) s x) (pre ++ x.name ∷ []) xs
    finish_one s pre x xs f =
        let to : Scope g.Reported = with_known x.name (known_of s) (with_variable_type s (Ok t)) in
        let is : finished_variable (Ok t) s x ≡ to =
        cond_true (is_begun (find_name x.name s.own)) to (with_variable_type s (Ok t)) f.begun_all.0 in
        let unsettled : holds_of is_settled (find_name x.name s.own) ≡ false =
        begun_unsettled (find_name x.name s.own) f.begun_all.0 in
        let same_keys : keys (enter_name x.name (known_of s) s.own) ≡ keys s.own
        = keys_entered x.name (known_of s) s.own
        ∙ cond_true (has x.name (keys s.own)) (keys s.own) (keys s.own ++ x.name ∷ [])
        (ap (λ (ks : List (List ℕ)). has x.name ks) f.keys_are ∙ has_middle x.name pre (ids xs ++ f.post)) in
        let next : Finishing to (pre ++ x.name ∷ []) xs = record {
          settled = settled_more x.name (known_of s) s.own pre refl unsettled f.settled;
          begun_all = begun_still x.name (known_of s) (with_variable_type s (Ok t)) xs f.once.0 f.begun_all.1;
          once = f.once.1;
          post = f.post;
          keys_are = same_keys ∙ (f.keys_are ∙ sym (append_assoc pre (x.name ∷ []) (ids xs ++ f.post)));
          distinct = distinct_entered x.name (known_of s) s.own f.distinct;
          others = others_by s x xs f.others;
          counts = variable_counts s x.name t (behind_at x.name s.own pre (ids xs ++ f.post) f.distinct f.keys_are
              f.settled unsettled) f.counts;
        } in
        subst (λ (s : Scope g.Reported). Finishing s (pre ++ x.name ∷ []) xs) (sym is) next

    finish_all : (xs : List Ident) (s : Scope g.Reported) (pre : List (List ℕ)) → Finishing s pre xs
        → NoneBegun g (fold (finished_variable (Ok t)) s xs) × Counts (fold (finished_variable (Ok t)) s xs)
    finish_all [] s pre f = (λ y. f.others y refl, f.counts)
    finish_all (x ∷ xs) s pre f = finish_all xs (finished_variable (Ok t) s x) (pre ++ x.name ∷ [])
        (finish_one s pre x xs f)

  -- ---- where declarations begin: what was marked by those before is settled

  -- all names of the definition are marked in the scope end
  record Begins (end s s0 : Scope g.Reported) : Type 0 where
    all : AllTaken (keys s0.own) s.own
    none : NoneBegun g s
    more : List (List ℕ)
    keys_are : keys s.own ≡ keys end.own ++ more
    distinct : Distinct s.own
    counts : Counts s

  all_settled : (end s s0 : Scope g.Reported) → Begins end s s0 → AllSettled (keys s0.own) s.own
  all_settled end s s0 b y h = taken_settled (find_name y s.own) (b.all y h) (b.none y)

  plain : (end s s' s0 s1 : Scope g.Reported) → Goes s s' → Ends g s s'
      → (AllTaken (keys s0.own) s'.own → AllTaken (keys s1.own) s'.own) → Begins end s s0 → Begins end s' s1
  plain end s s' s0 s1 k e c b = record {
    all = c (λ y h. k.taken y (b.all y h));
    none = e.none b.none;
    more = b.more ++ k.more;
    keys_are = behind (keys s'.own) (keys s.own) (keys end.own) b.more k.more k.keys_are b.keys_are;
    distinct = k.distinct b.distinct;
    counts = counts_kept s s' e.done_same e.variables e.procedures e.front b.counts;
  }

  -- ---- variables

  type_finish : (end : Scope g.Reported) (st : State (Unit {0}) g.Reported) (s0 : Scope g.Reported) (v : Variables)
      → Keeps (marked_variables s0 v) end → (fold (begun_name g) st v.names).1 ≡ Ok tt → Begins end st.0 s0
      → Finishing (type_of g v.of (fold (begun_name g) st v.names).0).0 (keys s0.own) v.names
  type_finish end st s0 v k e b =
      let names : List Ident = v.names in
      let bs : State (Unit {0}) g.Reported = fold (begun_name g) st names in
      let ts : State TypeNo g.Reported = type_of g v.of bs.0 in
      let started_all : Started st.0 bs.0 names = started names st e in
      let typed : Stays [] bs.0 ts.0 = type_of_stays g v.of bs.0 in
      let going : Goes st.0 ts.0 = type_of_goes g v.of bs.0 ⨾ begun_all_go g names st in
      let first : AllSettled (keys s0.own) st.0.own = all_settled end st.0 s0 b in
      let in_type : Keeps (fold marked_later s0 names) (marked_variables s0 v) =
      def_keeps g.Reported (fold marked_later s0 names) (def.Variables ((record { names = []; of = v.of }) ∷ [])) in
      let mine : keys (fold marked_later s0 names).own ≡ keys s0.own ++ ids names =
      later_keys names s0 started_all.once (new_all names first started_all.free) in
      record {
        settled = λ y h. typed.settled y (started_all.stays.settled y (first y h));
        begun_all = all_typed names typed started_all.begun_all;
        once = started_all.once;
        post = in_type.more ++ (k.more ++ (b.more ++ going.more));
        keys_are =
            behind (keys ts.0.own) (keys (fold marked_later s0 names).own) (keys s0.own) (ids names)
            (in_type.more ++ (k.more ++ (b.more ++ going.more)))
            (behind (keys ts.0.own) (keys (marked_variables s0 v).own) (keys (fold marked_later s0 names).own)
            in_type.more (k.more ++ (b.more ++ going.more))
            (behind (keys ts.0.own) (keys end.own) (keys (marked_variables s0 v).own) k.more (b.more ++ going.more)
            (behind (keys ts.0.own) (keys st.0.own) (keys end.own) b.more going.more going.keys_are b.keys_are)
            k.keys_are) in_type.keys_are) mine;
        distinct = going.distinct b.distinct;
        others = λ y h. typed.begun y refl ∙ (started_all.stays.begun y h ∙ b.none y);
        counts = counts_kept st.0 ts.0 (typed.done_same ∙ started_all.stays.done_same)
            (typed.variables ∙ started_all.stays.variables) (typed.procedures ∙ started_all.stays.procedures)
            (λ h. typed.front (started_all.stays.front h)) b.counts;
      }
    where
      new_all : (xs : List Ident) → AllSettled (keys s0.own) st.0.own → AllFree st.0 xs
          → AllByRecursion (λ x. has x.name (keys s0.own) ≡ false) xs
      new_all [] s p = tt
      new_all (x ∷ xs) s p = (
        new_name (keys s0.own) x.name st.0.own s (free_unsettled (find_name x.name st.0.own) p.0),
        new_all xs s p.1,
      )

      all_typed : (xs : List Ident) {a c : Scope g.Reported} → Stays [] a c → AllBegun a xs → AllBegun c xs
      all_typed [] k p = tt
      all_typed (x ∷ xs) k p = (k.begun x.name refl ∙ p.0, all_typed xs k p.1)

  finished_by : (s0 : Scope g.Reported) (v : Variables) (t : TypeNo) (r : Result TypeNo g.Reported)
      (s : Scope g.Reported) → r ≡ Ok t → Finishing s (keys s0.own) v.names
      → NoneBegun g (fold (finished_variable r) s v.names) × Counts (fold (finished_variable r) s v.names)
  finished_by s0 v t r s q f = subst (λ (r : Result TypeNo g.Reported). NoneBegun g
      (fold (finished_variable r) s v.names) × Counts (fold (finished_variable r) s v.names)) (sym q)
      (finish_all t v.names s (keys s0.own) f)

  variables_one : (end : Scope g.Reported) (st : State (Unit {0}) g.Reported) (s0 : Scope g.Reported) (v : Variables)
      → Keeps (marked_variables s0 v) end → (with_variables g st v).1 ≡ Ok tt → Begins end st.0 s0
      → Begins end (with_variables g st v).0 (marked_variables s0 v)
  variables_one end st s0 v k e b =
      let bs : State (Unit {0}) g.Reported = fold (begun_name g) st v.names in
      let ts : State TypeNo g.Reported = type_of g v.of bs.0 in
      let ok = then_ok ts.1 (λ x. Ok tt) tt (beside_right g bs.1 (nothing_of ts.1) e) in
      let last = finished_by s0 v ok.0 ts.1 ts.0 ok.1
      (type_finish end st s0 v k (beside_left g bs.1 (nothing_of ts.1) e) b) in
      let going : Goes st.0 (with_variables g st v).0 = variables_go g st v in
      record {
        all = variables_all g (v ∷ []) st e (with_variables g st v).0.own (λ y h. h) s0
            (λ y h. going.taken y (b.all y h));
        none = last.0;
        more = b.more ++ going.more;
        keys_are = behind (keys (with_variables g st v).0.own) (keys st.0.own) (keys end.own) b.more going.more
            going.keys_are b.keys_are;
        distinct = going.distinct b.distinct;
        counts = last.1;
      }

  variables_reported : (vs : List Variables) (st : State (Unit {0}) g.Reported)
      → (fold (with_variables g) st vs).1 ≡ Ok tt → st.1 ≡ Ok tt
  variables_reported vs st e = def_reported g st (def.Variables vs) e

  variables_begin : (end : Scope g.Reported) (vs : List Variables) (st : State (Unit {0}) g.Reported)
      (s0 : Scope g.Reported) → Keeps (fold marked_variables s0 vs) end → (fold (with_variables g) st vs).1 ≡ Ok tt
      → Begins end st.0 s0
      → Begins end (fold (with_variables g) st vs).0 (fold marked_variables s0 vs)
  variables_begin end [] st s0 k e b = b
  variables_begin end (v ∷ vs) st s0 k e b =
      variables_begin end vs (with_variables g st v) (marked_variables s0 v) k e
      (variables_one end st s0 v (keeps_then (def_keeps g.Reported (marked_variables s0 v) (def.Variables vs)) k)
      (variables_reported vs (with_variables g st v) e) b)

  -- ---- a procedure

  -- it stands by its heading
  abbrev headed : Scope g.Reported → TypeNo → Known g.Reported
  headed s x = Headed (heading_means false (procedure_meaning s.types.home (length s.procedures) (Ok x)))

  next_procedure : (end s s0 : Scope g.Reported) (h : Heading) (x : TypeNo) → Keeps (mark_name h.name Ahead s0) end
      → is_free (find_name h.name.name s.own) ≡ true → Begins end s s0
      → Begins end (with_known h.name.name (headed s x) (with_procedure_type s (Ok x))) (mark_name h.name Ahead s0)
  next_procedure end s s0 h x k f b =
      let name : List ℕ = h.name.name in
      let kn : Known g.Reported = headed s x in
      let u : holds_of is_settled (find_name name s.own) ≡ false = free_unsettled (find_name name s.own) f in
      let all : AllSettled (keys s0.own) s.own = all_settled end s s0 b in
      let mine : keys (mark_name h.name Ahead s0).own ≡ keys s0.own ++ name ∷ [] = marked_keys h.name Ahead s0
      ∙ ap (λ (c : Bool). cond c (keys s0.own) (keys s0.own ++ name ∷ [])) (new_name (keys s0.own) name s.own all u)
      in
      let whole : keys s.own ≡ keys s0.own ++ (name ∷ [] ++ (k.more ++ b.more)) =
      behind (keys s.own) (keys (mark_name h.name Ahead s0).own) (keys s0.own) (name ∷ []) (k.more ++ b.more)
      (behind (keys s.own) (keys end.own) (keys (mark_name h.name Ahead s0).own) k.more b.more b.keys_are
      k.keys_are) mine in
      let m = mark_more name (has name (keys s.own)) (keys s.own) in
      record {
        all = name_covers (enter_name name kn s.own) h.name Ahead (now_taken name kn s.own refl) s0
            (λ y h. taken_entered y name kn s.own refl (b.all y h));
        none = λ y. by y (same_name y name) refl;
        more = b.more ++ m.0;
        keys_are = behind (keys (enter_name name kn s.own)) (keys s.own) (keys end.own) b.more m.0
            (keys_entered name kn s.own ∙ m.1) b.keys_are;
        distinct = distinct_entered name kn s.own b.distinct;
        counts = procedure_counts s name x (behind_at name s.own (keys s0.own) (k.more ++ b.more) b.distinct whole all
            u) b.counts;
      }
    where
      by : (y : List ℕ) (c : Bool) → same_name y h.name.name ≡ c
          → is_begun (find_name y (enter_name h.name.name (headed s x) s.own)) ≡ false
      by y true e = subst (λ (z : List ℕ). is_begun (find_name z (enter_name h.name.name (headed s x) s.own)) ≡ false)
          (sym (same_is y h.name.name e)) (ap is_begun (found_self h.name.name (headed s x) s.own))
      by y false e = ap is_begun (found_other h.name.name (headed s x) s.own y e) ∙ b.none y

  declared_by : (end s s0 : Scope g.Reported) (h : Heading) (t : Result TypeNo g.Reported)
      → Keeps (mark_name h.name Ahead s0) end → Begins end s s0 → nothing_of t ≡ Ok tt
      → (declared_procedure g s h.name t).1 ≡ Ok tt
      → Begins end (declared_procedure g s h.name t).0 (mark_name h.name Ahead s0)
  declared_by end s s0 h (Err z) k b e q = absurd cc
  declared_by end s s0 h (Ok x) k b e q =
      let t : Scope g.Reported = with_procedure_type s (Ok x) in
      let to : Scope g.Reported = with_known h.name.name (headed s x) t in
      let f : is_free (find_name h.name.name s.own) ≡ true =
      free_if (is_free (find_name h.name.name s.own)) t to h.name q in
      subst (λ (s : Scope g.Reported). Begins end s (mark_name h.name Ahead s0))
      (sym (ap (λ (st : State (Unit {0}) g.Reported). st.0)
      (cond_true (is_free (find_name h.name.name s.own)) (to, Ok tt) (t, report g h.name.pos rule.DeclaredTwice)
      f))) (next_procedure end s s0 h x k f b)

  procedure_begins : (end : Scope g.Reported) (st : State (Unit {0}) g.Reported) (s0 : Scope g.Reported) (h : Heading)
      → Keeps (mark_name h.name Ahead s0) end → (with_procedure g st h).1 ≡ Ok tt → Begins end st.0 s0
      → Begins end (with_procedure g st h).0 (mark_name h.name Ahead s0)
  procedure_begins end st s0 h k e b =
      let t : State TypeNo g.Reported = with_made st.0 (heading_of g st.0 h) in
      let d : State (Unit {0}) g.Reported = declared_procedure g t.0 h.name t.1 in
      let all : beside g (names_of g h) (beside g (nothing_of t.1) d.1) ≡ Ok tt = beside_right g st.1 _ e in
      let both : beside g (nothing_of t.1) d.1 ≡ Ok tt =
      beside_right g (names_of g h) (beside g (nothing_of t.1) d.1) all in
      declared_by end t.0 s0 h t.1 k (plain end st.0 t.0 s0 s0 (made_goes st.0 (heading_of g st.0 h))
      (stays_end g st.0 t.0 (made_stays st.0 (heading_of g st.0 h))) (λ all. all) b)
      (beside_left g (nothing_of t.1) d.1 both) (beside_right g (nothing_of t.1) d.1 both)

  -- ---- all of them

  def_begins : (end : Scope g.Reported) (st : State (Unit {0}) g.Reported) (s0 : Scope g.Reported) (d : Def)
      → Keeps (marked_def s0 d) end → (with_def g st d).1 ≡ Ok tt → Begins end st.0 s0
      → Begins end (with_def g st d).0 (marked_def s0 d)
  def_begins end st s0 (def.Constants cs) k e b =
      plain end st.0 (fold (with_constant g) st cs).0 s0 (fold marked_constant s0 cs)
      (fold_goes (λ (st : State (Unit {0}) g.Reported). st.0) (with_constant g) (constant_goes g) cs st)
      (constants_end g cs st) (constants_all g cs st e (fold (with_constant g) st cs).0.own (λ y h. h) s0) b
  def_begins end st s0 (def.Types ts) k e b =
      plain end st.0 (fold (with_type g) st ts).0 s0 (fold marked_type s0 ts)
      (fold_goes (λ (st : State (Unit {0}) g.Reported). st.0) (with_type g) (type_decl_goes g) ts st)
      (types_end g ts st) (types_all g ts st e (fold (with_type g) st ts).0.own (λ y h. h) s0) b
  def_begins end st s0 (def.Variables vs) k e b = variables_begin end vs st s0 k e b
  def_begins end st s0 (def.Procedure h) k e b = procedure_begins end st s0 h k e b

  all_end : (ds : List Def) (st : State (Unit {0}) g.Reported) (s0 : Scope g.Reported)
      → (fold (with_def g) st ds).1 ≡ Ok tt → Begins (fold marked_def s0 ds) st.0 s0
      → Begins (fold marked_def s0 ds) (fold (with_def g) st ds).0 (fold marked_def s0 ds)
  all_end [] st s0 e b = b
  all_end (d ∷ ds) st s0 e b = all_end ds (with_def g st d) (marked_def s0 d) e
      (def_begins (fold marked_def s0 (d ∷ ds)) st s0 d (defs_keep g.Reported ds (marked_def s0 d))
      (defs_reported g ds (with_def g st d) e) b)

  -- what is imported is taken
  abbrev OwnTaken : Scope g.Reported → Type 0
  OwnTaken s = AllTaken (keys s.own) s.own

  entered_taken : (s : Scope g.Reported) (name : List ℕ) (k : Known g.Reported) → is_taken k ≡ true → OwnTaken s
      → OwnTaken (with_known name k s)
  entered_taken s name k t all =
      let own : List (List ℕ × Known g.Reported) = enter_name name k s.own in
      subst (λ (ks : List (List ℕ)). AllTaken ks own) (sym (keys_entered name k s.own))
      (all_marked own name (keys s.own) (λ y h. taken_entered y name k s.own t (all y h)) (now_taken name k s.own t))

  imports : KeepsImports g (λ s t. OwnTaken s → OwnTaken t)
  imports = record {
    order = fact OwnTaken;
    modules = λ s name n e. entered_taken s name _ refl;
    exports = λ s name n m e. entered_taken s name _ refl;
  }

  none_taken : (own : List (List ℕ × Known g.Reported)) → AllTaken [] own
  none_taken own y h = absurd cc

  -- the scope behind the imports
  abbrev imported : (m : Module) (home : ℕ) (modules : List (List ℕ × ℕ)) (tables : List Table)
      → State (Unit {0}) g.Reported
  imported m home modules tables = fold (with_import g modules) (first_scope home tables, Ok tt) m.imports

  first_begins : (m : Module) (home : ℕ) (modules : List (List ℕ × ℕ)) (tables : List Table) (defs : List Def)
      → Begins (fold marked_def (imported m home modules tables).0 defs)
      (fold marked_def (imported m home modules tables).0 defs) (imported m home modules tables).0
  first_begins m home modules tables defs =
      let s : Scope g.Reported = first_scope home tables in
      let u : Scope g.Reported = (imported m home modules tables).0 in
      let t : Scope g.Reported = fold marked_def u defs in
      let k = defs_keep g.Reported defs u in
      let i = import_goes g modules m.imports (s, Ok tt) in
      let stays : Stays [] s u = import_stays g modules m.imports (s, Ok tt) in
      let marks : Stays [] u t = all_marks g.Reported defs u in
      let none : NoneBegun g u = λ y. stays.begun y refl in
      let taken : OwnTaken u = imports_keep g imports modules m.imports (s, Ok tt) (none_taken s.own) in
      record {
        all = λ y h. settled_taken (find_name y t.own)
            (marks.settled y (taken_settled (find_name y u.own) (taken y h) (none y)));
        none = λ y. marks.begun y refl ∙ none y;
        more = [];
        keys_are = sym (append-nil (keys t.own));
        distinct = k.distinct (i.distinct tt);
        counts = counts_kept s t (marks.done_same ∙ stays.done_same) (marks.variables ∙ stays.variables)
            (marks.procedures ∙ stays.procedures) (λ h. marks.front (stays.front h))
            (record { variables = refl; procedures = refl; front = tt });
      }

  pub definition_counts : (m : Module) (home : ℕ) (modules : List (List ℕ × ℕ)) (tables : List Table) (defs : List Def)
      → (declared_in g m modules (first_scope home tables) defs).1 ≡ Ok tt
      → Counts (declared_in g m modules (first_scope home tables) defs).0
      × Distinct (declared_in g m modules (first_scope home tables) defs).0.own
  definition_counts m home modules tables defs e =
      let i : State (Unit {0}) g.Reported = imported m home modules tables in
      let b = all_end defs (fold marked_def i.0 defs, i.1) i.0
      (definition_reported g m modules (first_scope home tables) defs e) (first_begins m home modules tables defs) in
      (b.counts, b.distinct)
