-- What marks and declarations leave as it was: names that are there, and what names that are settled mean.
use Rattle.std.proofs.Common.{◌≡◌, ℕ, ◌==◌, Bool, true, false, not, cond, List, [], ◌∷◌, ◌++◌, Option, Some, None, Result, Ok, Err, refl, sym, ap, ◌∙◌}
use Rattle.std.specs.Prelude.{slice_get}
use Rattle.m2_rule.specs.declared.rule.Rule.TheVariants as rule
use Rattle.m2_tree.specs.declared.name.Ident.{Ident}
use Rattle.typed_tree.specs.declared.meaning.Meaning.{Meaning}
use Rattle.typed_tree.specs.declared.shape.Made.{Made}
use Rattle.typed_tree.specs.declared.known_types.Types.{Types}
use Rattle.typed_tree.specs.declared.types.Home.{Home}
use Rattle.typed_tree.specs.declared.types.Home.TheVariants as home
use Rattle.typed_tree.specs.declared.types.TypeNo.{TypeNo}
use Rattle.typed_tree.specs.Known.{made_from, made_at}
use Rattle.m2_tree.specs.Names.{same_name}
use Rattle.typed_tree.specs.Names.{find_name, enter_name}
use Rattle.check_scope.specs.Elaborated.{Gathers, report}
use Rattle.check_scope.specs.Scopes.{State, is_free, with_known, unless_declared, begin_name, is_begun, finish_name, unless_marked, mark_name}
use Rattle.check_scope.specs.declared.known.Known.{Known}
use Rattle.check_scope.specs.declared.known.Known.TheVariants.{Later, Ahead, Begun, Headed, Declared}
use Rattle.check_scope.specs.declared.known.Origin.TheVariants.{Here}
use Rattle.check_scope.specs.declared.scope.Scope.{Scope}
use Rattle.check_type_expr.specs.Made.{with_shape, with_made}
use Rattle.check_definition.specs.Marking.{Marks}
use Rattle.law_folds.proofs.MarkSteps.{KeepsMarks}
use Rattle.law_well_formed.specs.FormedScopes.{holds_of, is_awaiting}
use Rattle.law_well_formed.proofs.Names.{get_more, same_is, found_self, kept_entered}
use Rattle.law_well_formed.proofs.HeadingsLists.{index, found_other, index_entered, there_entered}

-- a name that no declaration changes any more
abbrev pub is_settled : {T : Type 0} → Known T → Bool
is_settled Later = false
is_settled Ahead = false
is_settled Begun = false
is_settled (Headed m) = true
is_settled (Declared o m) = not (is_awaiting (Declared o m))

abbrev pub Names : Type 0 → Type 0
Names T = List (List ℕ × Known T)

pub free_unsettled : {T : Type 0} (o : Option (Known T)) → is_free o ≡ true → holds_of is_settled o ≡ false
free_unsettled None e = refl
free_unsettled (Some Later) e = refl
free_unsettled (Some Ahead) e = refl
free_unsettled (Some Begun) e = refl
free_unsettled (Some (Headed m)) e = absurd cc
free_unsettled (Some (Declared o m)) e = absurd cc

begun_unsettled : {T : Type 0} (o : Option (Known T)) → is_begun o ≡ true → holds_of is_settled o ≡ false
begun_unsettled None e = refl
begun_unsettled (Some Later) e = refl
begun_unsettled (Some Ahead) e = refl
begun_unsettled (Some Begun) e = refl
begun_unsettled (Some (Headed m)) e = absurd cc
begun_unsettled (Some (Declared o m)) e = absurd cc

-- ---- one type more

made_more : (types : Types) (x : Made) (t : TypeNo) (y : Made) → made_at types t ≡ Some y
    → made_at (record types { own = types.own ++ x ∷ [] }) t ≡ Some y
made_more types x t y e = from t.home t.number e where
  here : (b : Bool) (n : ℕ) (other : Option Made) → cond b (slice_get types.own n) other ≡ Some y
      → cond b (slice_get (types.own ++ x ∷ []) n) other ≡ Some y
  here true n other e = get_more types.own (x ∷ []) n y e
  here false n other e = e

  from : (h : Home) (n : ℕ) → made_from types h n ≡ Some y
      → made_from (record types { own = types.own ++ x ∷ [] }) h n ≡ Some y
  from home.Predeclared n e = e
  from (home.Module k) n e = here (k == types.home) n _ e

-- ---- steps

-- names that are there stay at their places, settled ones mean what they meant, types stay, and what stands around does
pub record Keeps {T : Type 0} (s s' : Scope T) : Type 0 where
  pub tables : s'.tables ≡ s.tables
  pub outer : s'.outer ≡ s.outer
  pub withs : s'.withs ≡ s.withs
  pub types : (t : TypeNo) (x : Made) → made_at s.types t ≡ Some x → made_at s'.types t ≡ Some x
  pub there : (name : List ℕ) (k : Known T) → find_name name s.own ≡ Some k → (k' : Known T)
      × (find_name name s'.own ≡ Some k')
  pub places : (name : List ℕ) (k : Known T) → find_name name s.own ≡ Some k → index name s'.own ≡ index name s.own
  pub settled : (name : List ℕ) (k : Known T) → is_settled k ≡ true → find_name name s.own ≡ Some k
      → find_name name s'.own ≡ Some k

pub keeps_refl : {T : Type 0} (s : Scope T) → Keeps s s
keeps_refl s = record {
  tables = refl;
  outer = refl;
  withs = refl;
  types = λ t x e. e;
  there = λ name k e. (k, e);
  places = λ name k e. refl;
  settled = λ name k p e. e;
}

pub keeps_then : {T : Type 0} {a b c : Scope T} → Keeps a b → Keeps b c → Keeps a c
keeps_then p q = record {
  tables = q.tables ∙ p.tables;
  outer = q.outer ∙ p.outer;
  withs = q.withs ∙ p.withs;
  types = λ t x e. q.types t x (p.types t x e);
  there = λ name k e. let b = p.there name k e in q.there name b.0 b.1;
  places = λ name k e. let b = p.there name k e in q.places name b.0 b.1 ∙ p.places name k e;
  settled = λ name k s e. q.settled name k s (p.settled name k s e);
}

pub known_keeps : {T : Type 0} (s : Scope T) (name : List ℕ) (v : Known T)
    → holds_of is_settled (find_name name s.own) ≡ false → Keeps s (with_known name v s)
known_keeps s name v u = record {
  tables = refl;
  outer = refl;
  withs = refl;
  types = λ t x e. e;
  there = λ other k e. there_entered name v s.own other k e;
  places = λ other k e. index_entered name v s.own other k e;
  settled = λ other k p e. kept_entered is_settled name v s.own other k p u e;
}

-- nothing but names is the same
abbrev pub TypesStay : {T : Type 0} → Scope T → Scope T → Type 0
TypesStay s s' = (t : TypeNo) (x : Made) → made_at s.types t ≡ Some x → made_at s'.types t ≡ Some x

pub same_keeps : {T : Type 0} (s s' : Scope T) → s'.tables ≡ s.tables → s'.outer ≡ s.outer → s'.withs ≡ s.withs
    → TypesStay s s' → s'.own ≡ s.own → Keeps s s'
same_keeps s s' t o w m e = record {
  tables = t;
  outer = o;
  withs = w;
  types = m;
  there = λ name k f. (k, ap (λ (es : Names _). find_name name es) e ∙ f);
  places = λ name k f. ap (λ (es : Names _). index name es) e;
  settled = λ name k p f. ap (λ (es : Names _). find_name name es) e ∙ f;
}

-- ---- marks

pub record Marked {T : Type 0} (s s' : Scope T) : Type 0 where
  pub keeps : Keeps s s'
  pub same : (name : List ℕ) (k : Known T) → find_name name s.own ≡ Some k → find_name name s'.own ≡ Some k
  pub free : (name : List ℕ) → find_name name s.own ≡ None → is_free (find_name name s'.own) ≡ true

pub marked_refl : {T : Type 0} (s : Scope T) → Marked s s
marked_refl s = record { keeps = keeps_refl s; same = λ name k e. e; free = λ name e. ap is_free e }

free_then : {T : Type 0} {b c : Scope T} → Marked b c → (name : List ℕ) (o : Option (Known T))
    → find_name name b.own ≡ o → is_free o ≡ true → is_free (find_name name c.own) ≡ true
free_then q name None e f = q.free name e
free_then q name (Some k) e f = ap is_free (q.same name k e) ∙ f

pub marked_then : {T : Type 0} {a b c : Scope T} → Marked a b → Marked b c → Marked a c
marked_then {b = b} p q = record {
  keeps = keeps_then p.keeps q.keeps;
  same = λ name k e. q.same name k (p.same name k e);
  free = λ name e. free_then q name (find_name name b.own) refl (p.free name e);
}

new_by : {T : Type 0} (s : Scope T) (name : List ℕ) (v : Known T) (other : List ℕ) (b : Bool) → same_name other name ≡ b
    → is_free (Some v) ≡ true → find_name other s.own ≡ None
    → is_free (find_name other (enter_name name v s.own)) ≡ true
new_by s name v other true b f e = ap (λ (n : List ℕ). is_free (find_name n (enter_name name v s.own)))
    (same_is other name b) ∙ ap is_free (found_self name v s.own) ∙ f
new_by s name v other false b f e = ap is_free (found_other name v s.own other b ∙ e)

same_by : {T : Type 0} (s : Scope T) (name : List ℕ) (v : Known T) (other : List ℕ) (k : Known T) (b : Bool)
    → same_name other name ≡ b → find_name name s.own ≡ None → find_name other s.own ≡ Some k
    → find_name other (enter_name name v s.own) ≡ Some k
same_by s name v other k true b n e = let z : find_name other s.own ≡ None =
    ap (λ (x : List ℕ). find_name x s.own) (same_is other name b) ∙ n in
    absurd (let y : None ≡ Some k = sym z ∙ e in cc)
same_by s name v other k false b n e = found_other name v s.own other b ∙ e

pub new_marked : {T : Type 0} (s : Scope T) (name : List ℕ) (v : Known T) → is_free (Some v) ≡ true
    → find_name name s.own ≡ None
    → Marked s (with_known name v s)
new_marked s name v f e = record {
  keeps = known_keeps s name v (ap (λ (o : Option (Known _)). holds_of is_settled o) e);
  same = λ other k g. same_by s name v other k (same_name other name) refl e g;
  free = λ other g. new_by s name v other (same_name other name) refl f g;
}

pub keeps_marks : {T : Type 0} → KeepsMarks {T = T} Marked
keeps_marks = record {
  order = record { same = marked_refl; next = λ a b c p q. marked_then p q };
  later = λ s name e. new_marked s name Later refl e;
  ahead = λ s name e. new_marked s name Ahead refl e;
}

-- a name that is marked is there
there_by : {T : Type 0} (s : Scope T) (name : List ℕ) (v : Known T) (o : Option (Known T)) → find_name name s.own ≡ o
    → find_name name (unless_marked name v s o).own ≡ None → ⊥
there_by s name v (Some k) e h = absurd (let z : Some k ≡ None = sym e ∙ h in cc)
there_by s name v None e h = absurd (let z : Some v ≡ None = sym (found_self name v s.own) ∙ h in cc)

pub marked_there : {T : Type 0} (s : Scope T) (name : Ident) (v : Known T)
    → find_name name.name (mark_name name v s).own ≡ None → ⊥
marked_there s name v h = there_by s name.name v (find_name name.name s.own) refl h

-- a name that is not marked was not there
not_there_by : {T : Type 0} {a b : Scope T} → Marked a b → (name : List ℕ) (o : Option (Known T))
    → find_name name a.own ≡ o → find_name name b.own ≡ None → o ≡ None
not_there_by m name None e h = refl
not_there_by m name (Some k) e h = absurd (let z : Some k ≡ None = sym (m.same name k e) ∙ h in cc)

pub not_there : {T : Type 0} {a b : Scope T} → Marked a b → (name : List ℕ) → find_name name b.own ≡ None
    → find_name name a.own ≡ None
not_there {a = a} m name h = not_there_by m name (find_name name a.own) refl h

-- ---- a step that changes no names but those that are marked

abbrev pub MarksAll : {T : Type 0} → Marks T → Type 0
MarksAll {T} f = (s : Scope T) → Marked s (f s)

pub record Changes {T : Type 0} (marks : Marks T) (s s' : Scope T) : Type 0 where
  pub keeps : Keeps s s'
  pub others : (z : Scope T) (name : List ℕ) → find_name name (marks z).own ≡ None
      → find_name name s'.own ≡ find_name name s.own

pub changes_refl : {T : Type 0} (marks : Marks T) (s : Scope T) → Changes marks s s
changes_refl marks s = record { keeps = keeps_refl s; others = λ z name h. refl }

pub changes_then : {T : Type 0} {marks : Marks T} {a b c : Scope T} → Changes marks a b → Changes marks b c
    → Changes marks a c
changes_then p q = record {
  keeps = keeps_then p.keeps q.keeps;
  others = λ z name h. q.others z name h
      ∙ p.others z name h;
}

-- what was marked before, or is marked behind
pub changes_first : {T : Type 0} (f h : Marks T) {s s' : Scope T} → MarksAll h → Changes f s s'
    → Changes (λ z. h (f z)) s s'
changes_first f h m p = record { keeps = p.keeps; others = λ z name e. p.others z name (not_there (m (f z)) name e) }

pub changes_second : {T : Type 0} (f h : Marks T) {s s' : Scope T} → Changes h s s' → Changes (λ z. h (f z)) s s'
changes_second f h p = record { keeps = p.keeps; others = λ z name e. p.others (f z) name e }

other_name : {T : Type 0} (s : Scope T) (name : List ℕ) (v : Known T) (other : List ℕ) (b : Bool)
    → same_name other name ≡ b → (other ≡ name → ⊥) → find_name other (enter_name name v s.own) ≡ find_name other s.own
other_name s name v other true b h = absurd (h (same_is other name b))
other_name s name v other false b h = found_other name v s.own other b

pub known_changes : {T : Type 0} (s : Scope T) (name : Ident) (m v : Known T)
    → holds_of is_settled (find_name name.name s.own) ≡ false
    → Changes (λ z. mark_name name m z) s (with_known name.name v s)
known_changes s name m v u = record {
  keeps = known_keeps s name.name v u;
  others = λ z other h. other_name s name.name v other (same_name other name.name) refl
      (λ e. marked_there z name m (ap (λ (n : List ℕ). find_name n (mark_name name m z).own) (sym e) ∙ h));
}

module _ (g : Gathers) (s : Scope g.Reported) (name : Ident) (m : Known g.Reported) where
  unless_by : (b : Bool) (v : Known g.Reported) → (b ≡ true → holds_of is_settled (find_name name.name s.own) ≡ false)
      → Changes (λ z. mark_name name m z) s (cond {A = State (Unit {0}) g.Reported} b (with_known name.name v s, Ok tt)
      (s, report g name.pos rule.DeclaredTwice)).0
  unless_by true v h = known_changes s name m v (h refl)
  unless_by false v h = changes_refl (λ z. mark_name name m z) s

  pub unless_changes : (v : Known g.Reported) → Changes (λ z. mark_name name m z) s (unless_declared g s name v).0
  unless_changes v = unless_by (is_free (find_name name.name s.own)) v
      (λ e. free_unsettled (find_name name.name s.own) e)

  pub begun_changes : Changes (λ z. mark_name name m z) s (begin_name g s name).0
  begun_changes = unless_changes Begun

finished_by : {T : Type 0} (s : Scope T) (name : Ident) (m v : Known T) (b : Bool)
    → (b ≡ true → holds_of is_settled (find_name name.name s.own) ≡ false)
    → Changes (λ z. mark_name name m z) s (cond b (with_known name.name v s) s)
finished_by s name m v true h = known_changes s name m v (h refl)
finished_by s name m v false h = changes_refl (λ z. mark_name name m z) s

pub finished_changes : {T : Type 0} (s : Scope T) (name : Ident) (m : Known T) (r : Result Meaning T)
    → Changes (λ z. mark_name name m z) s (finish_name s name r)
finished_changes s name m r = finished_by s name m (Declared Here r) (is_begun (find_name name.name s.own))
    (λ e. begun_unsettled (find_name name.name s.own) e)

pub same_changes : {T : Type 0} (marks : Marks T) (s s' : Scope T) → s'.tables ≡ s.tables → s'.outer ≡ s.outer
    → s'.withs ≡ s.withs → TypesStay s s' → s'.own ≡ s.own → Changes marks s s'
same_changes marks s s' t o w m e = record {
  keeps = same_keeps s s' t o w m e;
  others =
      λ z name h. ap (λ (es : Names _). find_name name es) e;
}

pub shape_changes : {T : Type 0} (marks : Marks T) (s : Scope T) (x : Made) → Changes marks s (with_shape s x)
shape_changes marks s x = same_changes marks s (with_shape s x) refl refl refl (made_more s.types x) refl

pub made_changes : {T : Type 0} (marks : Marks T) (s : Scope T) (x : Result Made T) → Changes marks s (with_made s x).0
made_changes marks s (Ok x) = shape_changes marks s x
made_changes marks s (Err e) = changes_refl marks s
