-- Where the texts of each procedure begin: as far as it is known, or behind those of all procedures before it.
use Rattle.std.proofs.Common.{◌≡◌, ◌≢◌, ℕ, zero, suc, ◌+◌, ◌<◌, Bool, true, false, List, [], ◌∷◌, ◌++◌, length, Option, Some, None, inl, inr, refl, ap, sym, ◌∙◌, subst, arith, length-append, append_assoc, replicate, set, zero-add}
use Rattle.std.specs.Prelude.{slice_get, ◌==◌, if◌then◌else◌}
use Rattle.std.specs.List.{fold, flat_map}
use Rattle.std.proofs.lemmas.Bool.{eqb-true}
use Rattle.std.proofs.lemmas.Bool.Decides.{eqb_tells}
use Rattle.std.proofs.lemmas.List.{length-set, get_or-set_same, append-nil, length-replicate}
use Rattle.std.proofs.lemmas.Option.{slice_get-get_or}
use Rattle.typed_tree.specs.declared.typed_module.Which.{Which}
use Rattle.typed_tree.specs.declared.typed_module.Which.TheVariants as which
use Rattle.typed_tree.specs.declared.typed_module.TypedModule.{TypedModule}
use Rattle.layout_storage.specs.Texts.{Texts, characters, body_texts, routines_texts, which_texts, texts_before}
use Rattle.def_scheme.specs.Modules.{all_characters}
use Rattle.emit_tables.specs.declared.offsets.Offsets.{Offsets}
use Rattle.emit_tables.specs.declared.texts.Gathering.{Gathering}
use Rattle.emit_tables.specs.declared.texts.ModuleTexts.{ModuleTexts}
use Rattle.emit_tables.specs.Written.{which_written}
use Rattle.emit_tables.specs.Offsets.{Table, noted_at, note_place, noted_which, or_else, noted_or, no_offsets, nothing_yet, with_which, gather_texts, AreTexts}
use Rattle.emit_tables.proofs.TextVariants.{both}
use Rattle.emit_tables.proofs.TextBodies.{routines_are}

-- ---- characters

pub length_all : (ts : Texts) → length (all_characters ts) ≡ characters ts
length_all [] = refl
length_all (t ∷ ts) = length-append t (all_characters ts) ∙ ap (λ (n : ℕ). length t + n) (length_all ts)

split : (a b : Texts) → characters (a ++ b) ≡ characters a + characters b
split [] b = omega arith
split (t ∷ ts) b = omega (arith, split ts b)

-- ---- tables

length_noted : (e : Option (Option ℕ)) (xs : Table) (k at : ℕ) → length (noted_at e xs k at) ≡ length xs
length_noted None xs k at = refl
length_noted (Some (Some b)) xs k at = refl
length_noted (Some None) xs k at = length-set xs k (Some at)

set_same : (xs : Table) (n : ℕ) (x : Option ℕ) → n < length xs → slice_get (set xs n x) n ≡ Some x
set_same xs n x h = slice_get-get_or (set xs n x) n None (omega (arith, length-set xs n x, h))
    ∙ ap Some (get_or-set_same xs n x None h)

set_other : (xs : Table) (k n : ℕ) (x : Option ℕ) → n ≢ k → slice_get (set xs k x) n ≡ slice_get xs n
set_other [] k n x d = refl
set_other (y ∷ ys) zero zero x d = absurd (d refl)
set_other (y ∷ ys) zero (suc n) x d = refl
set_other (y ∷ ys) (suc k) zero x d = refl
set_other (y ∷ ys) (suc k) (suc n) x d = set_other ys k n x (λ e. d (ap suc e))

same_place : (e : Option (Option ℕ)) (xs : Table) (n at later : ℕ) → slice_get xs n ≡ e → n < length xs
    → or_else (slice_get xs n) at ≡ or_else (slice_get (noted_at e xs n at) n) later
same_place None xs n at later e h = absurd (lacks (sym (slice_get-get_or xs n None h) ∙ e))
  where
    lacks : {x : Option ℕ} → Some x ≡ None → ⊥
    lacks e = cc e
same_place (Some (Some b)) xs n at later e h = ap (λ (x : Option (Option ℕ)). or_else x at) e
    ∙ sym (ap (λ (x : Option (Option ℕ)). or_else x later) e)
same_place (Some None) xs n at later e h = ap (λ (x : Option (Option ℕ)). or_else x at) e
    ∙ sym (ap (λ (x : Option (Option ℕ)). or_else x later) (set_same xs n (Some at) h))

other_place : (e : Option (Option ℕ)) (xs : Table) (k n at : ℕ) → n ≢ k
    → slice_get (noted_at e xs k at) n ≡ slice_get xs n
other_place None xs k n at d = refl
other_place (Some (Some b)) xs k n at d = refl
other_place (Some None) xs k n at d = set_other xs k n (Some at) d

-- ---- one more procedure

-- the texts that stand before, where it is this one, and where it is not
before_same : {b : Bool} (ts more : Texts) → b ≡ true → characters (if b then [] else ts ++ more) ≡ 0
before_same ts more e = subst (λ (b : Bool). characters (if b then [] else ts ++ more) ≡ 0) (sym e) refl

before_other : {b : Bool} (ts more : Texts) → b ≡ false
    → characters (if b then [] else ts ++ more) ≡ characters ts + characters more
before_other ts more e = subst (λ (b : Bool). characters (if b then [] else ts ++ more)
    ≡ characters ts + characters more) (sym e) (split ts more)

longer : (cs : List ℕ) (ts : Texts) → length (cs ++ all_characters ts) ≡ length cs + characters ts
longer cs ts = length-append cs (all_characters ts) ∙ ap (λ (n : ℕ). length cs + n) (length_all ts)

at_same : (xs : Table) (n k : ℕ) (cs : List ℕ) (ts more : Texts) (later : ℕ) → (n == k) ≡ true → n < length xs
    → or_else (slice_get xs n) (length cs + characters (if n == k then [] else ts ++ more))
    ≡ or_else (slice_get (note_place xs k (length cs)) n) later
at_same xs n k cs ts more later e h =
    let none : length cs + characters (if n == k then [] else ts ++ more) ≡ length cs =
    omega (arith, before_same ts more e) in
    ap (λ (at : ℕ). or_else (slice_get xs n) at) none
    ∙ same_place (slice_get xs n) xs n (length cs) later refl h
    ∙ ap (λ (j : ℕ). or_else (slice_get (note_place xs j (length cs)) n) later) (eqb-true n k e)

at_other : (xs ys : Table) (n : ℕ) (b : Bool) (cs : List ℕ) (ts more : Texts) → b ≡ false
    → slice_get ys n ≡ slice_get xs n
    → or_else (slice_get xs n) (length cs + characters (if b then [] else ts ++ more))
    ≡ or_else (slice_get ys n) (length (cs ++ all_characters ts) + characters more)
at_other xs ys n b cs ts more e s =
    let far : length cs + characters (if b then [] else ts ++ more)
    ≡ length (cs ++ all_characters ts) + characters more = omega (arith, before_other ts more e, longer cs ts) in
    ap (λ (at : ℕ). or_else (slice_get xs n) at) far
    ∙ ap (λ (x : Option (Option ℕ)). or_else x (length (cs ++ all_characters ts) + characters more)) (sym s)

at_either : (xs : Table) (n k : ℕ) (cs : List ℕ) (ts more : Texts) → n < length xs
    → or_else (slice_get xs n) (length cs + characters (if n == k then [] else ts ++ more))
    ≡ or_else (slice_get (note_place xs k (length cs)) n) (length (cs ++ all_characters ts) + characters more)
at_either xs n k cs ts more h =
    elim (eqb_tells n k) [
      | inl p ↦ at_same xs n k cs ts more (length (cs ++ all_characters ts) + characters more) p.0 h
      | inr p ↦ at_other xs (note_place xs k (length cs)) n (n == k) cs ts more p.0
          (other_place (slice_get xs k) xs k n (length cs) p.1)
    ]

-- ---- all procedures

-- the tables reach to this procedure
abbrev Reach : Offsets → Which → Type 0
Reach x (which.Module n) = n < length x.procedures
Reach x (which.Local n) = n < length x.locals

abbrev begins : TypedModule → Gathering → Which → List Which → ℕ
begins m x w vs = noted_or x.offsets w (length x.characters + characters (texts_before m w vs))

kept : (x : Offsets) (w v : Which) (at : ℕ) → Reach x w → Reach (noted_which x v at) w
kept x (which.Module n) (which.Module k) at h =
    omega (arith, h, length_noted (slice_get x.procedures k) x.procedures k at)
kept x (which.Module n) (which.Local k) at h = h
kept x (which.Local n) (which.Module k) at h = h
kept x (which.Local n) (which.Local k) at h = omega (arith, h, length_noted (slice_get x.locals k) x.locals k at)

step : (m : TypedModule) (x : Gathering) (w v : Which) (vs : List Which) → Reach x.offsets w
    → begins m x w (v ∷ vs) ≡ begins m (with_which m x v) w vs
step m x (which.Module n) (which.Module k) vs h =
    at_either x.offsets.procedures n k x.characters (which_texts m (which.Module k))
    (texts_before m (which.Module n) vs) h
step m x (which.Module n) (which.Local k) vs h =
    at_other x.offsets.procedures x.offsets.procedures n false x.characters (which_texts m (which.Local k))
    (texts_before m (which.Module n) vs) refl refl
step m x (which.Local n) (which.Module k) vs h =
    at_other x.offsets.locals x.offsets.locals n false x.characters (which_texts m (which.Module k))
    (texts_before m (which.Local n) vs) refl refl
step m x (which.Local n) (which.Local k) vs h =
    at_either x.offsets.locals n k x.characters (which_texts m (which.Local k)) (texts_before m (which.Local n) vs) h

all_steps : (m : TypedModule) (x : Gathering) (w : Which) (vs : List Which) → Reach x.offsets w
    → begins m x w vs ≡ begins m (fold (with_which m) x vs) w []
all_steps m x w [] h = refl
all_steps m x w (v ∷ vs) h = step m x w v vs h
    ∙ all_steps m (with_which m x v) w vs (kept x.offsets w v (length x.characters) h)

none : (count n at : ℕ) → or_else (slice_get (replicate count None) n) at ≡ at
none zero n at = refl
none (suc c) zero at = refl
none (suc c) (suc n) at = none c n at

at_start : (m : TypedModule) (w : Which) → begins m (nothing_yet m) w m.order ≡ characters (texts_before m w m.order)
at_start m (which.Module n) = none (length m.procedures) n (0 + characters (texts_before m (which.Module n) m.order))
    ∙ zero-add (characters (texts_before m (which.Module n) m.order))
at_start m (which.Local n) = none (length m.locals) n (0 + characters (texts_before m (which.Local n) m.order))
    ∙ zero-add (characters (texts_before m (which.Local n) m.order))

one_after_another : (m : TypedModule) (x : Gathering) (vs : List Which)
    → (fold (with_which m) x vs).characters ≡ x.characters ++ flat_map (which_written m) vs
one_after_another m x [] = sym (append-nil x.characters)
one_after_another m x (v ∷ vs) = one_after_another m (with_which m x v) vs
    ∙ append_assoc x.characters (which_written m v) (flat_map (which_written m) vs)

routines : (m : TypedModule) → (gather_texts m).characters ≡ all_characters (routines_texts m)
routines m = one_after_another m (nothing_yet m) m.order ∙ sym (routines_are m m.order)

behind : (m : TypedModule) → length (gather_texts m).characters ≡ characters (routines_texts m)
behind m = ap (λ (cs : List ℕ). length cs) (routines m) ∙ length_all (routines_texts m)

begin : (m : TypedModule) (w : Which) → Reach (no_offsets m) w
    → noted_or (gather_texts m).offsets w (length (gather_texts m).characters) ≡ characters (texts_before m w m.order)
begin m w h =
    let end : length (gather_texts m).characters ≡ length (gather_texts m).characters + 0 = omega arith in
    ap (λ (at : ℕ). noted_or (gather_texts m).offsets w at) end ∙ sym (all_steps m (nothing_yet m) w m.order h)
    ∙ at_start m w

abbrev made : List ℕ → Offsets → ℕ → ModuleTexts
made cs x body = record { characters = cs; offsets = x; body = body }

abbrev found : TypedModule → ModuleTexts
found m = record {
  characters = (gather_texts m).characters ++ all_characters (body_texts m.body);
  offsets =
      (gather_texts m).offsets;
  body = length (gather_texts m).characters;
}

with_body : (m : TypedModule) (g : Gathering) (cs : List ℕ) (body : ℕ) → g ≡ gather_texts m → body ≡ length g.characters
    → cs ≡ g.characters ++ all_characters (body_texts m.body)
    → made cs g.offsets body ≡ found m
with_body m g cs body e f h =
    ap (λ (x : Gathering). made cs x.offsets body) e
    ∙ ap (λ (n : ℕ). made cs (gather_texts m).offsets n) (f ∙ ap (λ (x : Gathering). length x.characters) e)
    ∙ ap (λ (ds : List ℕ). made ds (gather_texts m).offsets (length (gather_texts m).characters))
    (h ∙ ap (λ (x : Gathering). x.characters ++ all_characters (body_texts m.body)) e)

abbrev no_entry : Option ℕ
no_entry = None

found_texts : (m : TypedModule) → AreTexts m (found m)
found_texts m = record {
  all = ap (λ (cs : List ℕ). cs ++ all_characters (body_texts m.body)) (routines m)
      ∙ sym (both (routines_texts m) (body_texts m.body));
  behind = behind m;
  procedures = λ n h. begin m (which.Module n)
      (subst (λ (k : ℕ). n < k) (sym (length-replicate (length m.procedures) no_entry)) h);
  locals = λ n h. begin m (which.Local n)
      (subst (λ (k : ℕ). n < k) (sym (length-replicate (length m.locals) no_entry)) h);
}

pub texts_are : (m : TypedModule) (g : Gathering) (cs : List ℕ) (body : ℕ) → g ≡ gather_texts m
    → body ≡ length g.characters → cs ≡ g.characters ++ all_characters (body_texts m.body)
    → AreTexts m (record { characters = cs; offsets = g.offsets; body = body })
texts_are m g cs body e f h = subst (λ (x : ModuleTexts). AreTexts m x) (sym (with_body m g cs body e f h))
    (found_texts m)
