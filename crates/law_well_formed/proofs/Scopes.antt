-- A scope whose names are formed, without records of WITH.
use Rattle.std.proofs.Common.{◌≡◌, ℕ, zero, suc, Bool, true, false, cond, List, [], ◌∷◌, ◌++◌, length, Option, Some, None, Result, Ok, Err, refl, sym, subst}
use Rattle.std.specs.Prelude.{slice_get, nat_lt}
use Rattle.std.specs.List.{fold}
use Rattle.std.specs.Option.{option_map, is_some}
use Rattle.m2_rule.specs.declared.rule.Rule.TheVariants as rule
use Rattle.m2_tree.specs.declared.pos.Pos.{Pos}
use Rattle.m2_tree.specs.declared.name.Ident.{Ident}
use Rattle.m2_tree.specs.declared.decl.Section.{Section}
use Rattle.typed_tree.specs.declared.meaning.Meaning.{Meaning}
use Rattle.typed_tree.specs.declared.meaning.Meaning.TheVariants as meaning
use Rattle.typed_tree.specs.declared.shape.Formal.{Formal}
use Rattle.typed_tree.specs.declared.shape.Made.{Made}
use Rattle.typed_tree.specs.declared.typed_module.TypedModule.{TypedModule}
use Rattle.typed_tree.specs.declared.types.TypeNo.{TypeNo}
use Rattle.typed_tree.specs.Known.{made_at}
use Rattle.m2_tree.specs.Names.{same_name}
use Rattle.typed_tree.specs.Names.{find_name, place_of, enter_name}
use Rattle.check_scope.specs.Elaborated.{Gathers, report}
use Rattle.check_scope.specs.Scopes.{or_outside, Sight, seen_at, in_block, nearer, known_outside, or_around, sight_of, means_seen, means_as, open_field, means_or}
use Rattle.check_scope.specs.declared.known.Known.{Known}
use Rattle.check_scope.specs.declared.known.Known.TheVariants.{Later, Ahead, Begun, Headed, Declared}
use Rattle.check_scope.specs.declared.known.Origin.{Origin}
use Rattle.check_scope.specs.declared.known.Origin.TheVariants.{Here, Module, Export}
use Rattle.check_scope.specs.declared.scope.Block.{Block}
use Rattle.check_scope.specs.declared.scope.OpenedRecord.{OpenedRecord}
use Rattle.check_scope.specs.declared.scope.Scope.{Scope}
use Rattle.check_const.specs.Denote.{exported_meaning}
use Rattle.check_type_expr.specs.Headings.{formal_of}
use Rattle.check_block.specs.Inner.{formal_kind, formal_meaning, Formals, with_formal, with_section, formals_in}
use Rattle.law_well_formed.specs.Formed.{Holds, fine, FormedMeaning, IsFormed}
use Rattle.law_well_formed.proofs.Basics.{then_holds, holds_weaker, reported_holds, plain_holds, any_holds}
use Rattle.law_well_formed.specs.FormedScopes.{holds_of, is_awaiting, FormedFrom, FormedKnown, AreFormedNames, AreFormedBlocks}
use Rattle.law_well_formed.proofs.Names.{none_entered}
use Rattle.law_well_formed.proofs.ScopesGrowth.{names_more}

module _ (m : TypedModule) (opens : ℕ → Bool) {T : Type 0} where
  -- ---- what is known of a name

  abbrev FormedIf : Option (Known T) → Type 0
  FormedIf None = Unit {0}
  FormedIf (Some k) = FormedKnown m opens k

  abbrev FormedSight : Sight T → Type 0
  FormedSight None = Unit {0}
  FormedSight (Some k) = FormedKnown m opens k.0

  found_by : (b : Bool) (k : Known T) (o : Option (Known T)) → FormedKnown m opens k → FormedIf o
      → FormedIf (cond b (Some k) o)
  found_by true k o p q = p
  found_by false k o p q = q

  found_formed : (name : List ℕ) (es : List (List ℕ × Known T)) → AreFormedNames m opens es
      → FormedIf (find_name name es)
  found_formed name [] all = tt
  found_formed name (e ∷ es) all = found_by (same_name name e.0) e.1 (find_name name es) all.0
      (found_formed name es all.1)

  at_place : (seen p : ℕ) (es : List (List ℕ × Known T)) (n : ℕ) → AreFormedNames m opens es
      → FormedSight (option_map (λ e. (e.1, nat_lt p seen)) (slice_get es n))
  at_place seen p [] n all = tt
  at_place seen p (e ∷ es) zero all = all.0
  at_place seen p (e ∷ es) (suc n) all = at_place seen p es n all.1

  seen_formed : (seen : ℕ) (es : List (List ℕ × Known T)) (o : Option ℕ) → AreFormedNames m opens es
      → FormedSight (seen_at seen es o)
  seen_formed seen es None all = tt
  seen_formed seen es (Some p) all = at_place seen p es p all

  or_formed : (a b : Sight T) → FormedSight a → FormedSight b → FormedSight (or_outside a b)
  or_formed None b p q = q
  or_formed (Some k) b p q = p

  outside_formed : (name : List ℕ) (bs : List (Block T)) (far : Sight T) → FormedSight far → AreFormedBlocks m opens bs
      → FormedSight (fold (nearer name) far bs)
  outside_formed name [] far p all = p
  outside_formed name (b ∷ bs) far p all =
      outside_formed name bs (nearer name far b)
      (or_formed (in_block name b) far (seen_formed b.seen b.names (place_of name b.names) all.0) p) all.1

  around_formed : (o : Option (Known T)) (far : Sight T) → FormedIf o → FormedSight far → FormedSight (or_around o far)
  around_formed None far p q = q
  around_formed (Some k) far p q = p

  pub blocks_more : (bs : List (Block T)) (b : Block T) → AreFormedBlocks m opens bs → AreFormedNames m opens b.names
      → AreFormedBlocks m opens (bs ++ b ∷ [])
  blocks_more [] b p q = (q, tt)
  blocks_more (x ∷ bs) b p q = (p.0, blocks_more bs b p.1 q)

module _ (m : TypedModule) (opens : ℕ → Bool) (g : Gathers) where
  abbrev Means_ : {T : Type 0} → Result Meaning T → Type 0
  Means_ r = Holds (FormedMeaning m opens 0) r

  from_means : (o : Origin) (r : Result Meaning g.Reported) → FormedFrom m opens o r → Means_ r
  from_means Here r p = holds_weaker (λ x q. q.0) p
  from_means (Module k) r p = p
  from_means (Export k) r p = p

  declared_means : (at : Pos) (seen : Bool) (r : Result Meaning g.Reported) → Means_ r
      → Means_ (cond seen r (report g at rule.Undeclared))
  declared_means at true r p = p
  declared_means at false r p = reported_holds g at rule.Undeclared

  seen_means : (at : Pos) (k : Known g.Reported) (seen : Bool) → FormedKnown m opens k → Means_ (means_seen g at k seen)
  seen_means at Later seen p = plain_holds (reported_holds g at rule.Undeclared)
  seen_means at Ahead seen p = fine meaning.Ahead tt
  seen_means at Begun seen p = plain_holds (reported_holds g at rule.Undeclared)
  seen_means at (Headed r) seen p = holds_weaker (λ x q. q.0) p
  seen_means at (Declared o r) seen p = plain_holds (declared_means at seen r (from_means o r p))

  means_formed : (at : Pos) (o : Sight g.Reported) → FormedSight m opens o → Means_ (means_as g at o)
  means_formed at None p = plain_holds (reported_holds g at rule.Undeclared)
  means_formed at (Some k) p = seen_means at k.0 k.1 p

  -- types that are the module's, names that are formed, and modules that are open
  pub scope_formed : (s : Scope g.Reported)
      → ((t : TypeNo) (x : Made) → made_at s.types t ≡ Some x → made_at m.types t ≡ Some x)
      → AreFormedNames m opens s.own → AreFormedBlocks m opens s.outer → s.withs ≡ []
      → ((k : ℕ) (name : Ident) → opens k ≡ true → Holds (FormedMeaning m opens 0) (exported_meaning g s.tables k name))
      → IsFormed g m opens 0 s
  scope_formed s types own outer withs members = record {
    types = types;
    names = λ name.
        subst (λ (ws : List OpenedRecord). Means_
        (means_or (open_field s.types name.name ws) (means_as g name.pos (sight_of name.name s)))) (sym withs)
        (means_formed name.pos (sight_of name.name s)
        (around_formed m opens (find_name name.name s.own) (known_outside name.name s.outer)
        (found_formed m opens name.name s.own own) (outside_formed m opens name.name s.outer None tt outer)));
    members = members;
  }

  -- ---- formals

  formal_known : (level n : ℕ) (f : Result Formal g.Reported)
      → FormedKnown m opens (Declared Here (formal_meaning level n f))
  formal_known level n f = then_holds (any_holds f)
      (λ x k. fine (meaning.Local (record { level = level; number = n; kind = formal_kind x; of = x.of })) (tt, tt))

  unless_by : (b : Bool) (name : List ℕ) (k : Known g.Reported) (ns : List (List ℕ × Known g.Reported))
      → FormedKnown m opens k → AreFormedNames m opens ns → AreFormedNames m opens (cond b ns (enter_name name k ns))
  unless_by true name k ns p q = q
  unless_by false name k ns p q = names_more m opens name k ns p q

  formal_names : (level : ℕ) (f : Result Formal g.Reported) (names : List Ident) (fs : Formals g.Reported)
      → AreFormedNames m opens fs.0 → AreFormedNames m opens (fold (with_formal level f) fs names).0
  formal_names level f [] fs p = p
  formal_names level f (x ∷ xs) fs p =
      formal_names level f xs (with_formal level f fs x)
      (unless_by (is_some (find_name x.name fs.0)) x.name (Declared Here (formal_meaning level (length fs.1) f))
      fs.0 (formal_known level (length fs.1) f) p)

  section_names : (s : Scope g.Reported) (xs : List Section) (fs : Formals g.Reported) → AreFormedNames m opens fs.0
      → AreFormedNames m opens (fold (with_section g s) fs xs).0
  section_names s [] fs p = p
  section_names s (x ∷ xs) fs p = section_names s xs (with_section g s fs x)
      (formal_names s.level (formal_of g s x.is_var x.of) x.names fs p)

  pub formals_formed : (s : Scope g.Reported) (xs : List Section) → AreFormedNames m opens (formals_in g s xs).0
  formals_formed s xs = section_names s xs ([], []) tt

module _ (g : Gathers) where
  abbrev NoneAwaits : List (List ℕ × Known g.Reported) → Type 0
  NoneAwaits ns = (name : List ℕ) → holds_of is_awaiting (find_name name ns) ≡ false

  formal_awaits : (level n : ℕ) (f : Result Formal g.Reported)
      → is_awaiting (Declared Here (formal_meaning level n f)) ≡ false
  formal_awaits level n (Ok f) = refl
  formal_awaits level n (Err e) = refl

  awaits_by : (b : Bool) (name : List ℕ) (k : Known g.Reported) (ns : List (List ℕ × Known g.Reported))
      → is_awaiting k ≡ false → NoneAwaits ns → NoneAwaits (cond b ns (enter_name name k ns))
  awaits_by true name k ns e p = p
  awaits_by false name k ns e p = λ other. none_entered is_awaiting name k ns other e (p other)

  names_await : (level : ℕ) (f : Result Formal g.Reported) (names : List Ident) (fs : Formals g.Reported)
      → NoneAwaits fs.0 → NoneAwaits (fold (with_formal level f) fs names).0
  names_await level f [] fs p = p
  names_await level f (x ∷ xs) fs p =
      names_await level f xs (with_formal level f fs x)
      (awaits_by (is_some (find_name x.name fs.0)) x.name (Declared Here (formal_meaning level (length fs.1) f))
      fs.0 (formal_awaits level (length fs.1) f) p)

  sections_await : (s : Scope g.Reported) (xs : List Section) (fs : Formals g.Reported) → NoneAwaits fs.0
      → NoneAwaits (fold (with_section g s) fs xs).0
  sections_await s [] fs p = p
  sections_await s (x ∷ xs) fs p = sections_await s xs (with_section g s fs x)
      (names_await s.level (formal_of g s x.is_var x.of) x.names fs p)

  pub formals_await : (s : Scope g.Reported) (xs : List Section) (name : List ℕ)
      → holds_of is_awaiting (find_name name (formals_in g s xs).0) ≡ false
  formals_await s xs = sections_await s xs ([], []) (λ name. refl)
