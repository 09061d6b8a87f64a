-- Code in the making that is valid: what it takes and gives, and what the parts of such code are put together by.
use Rattle.std.proofs.Common.{◌≡◌, ℕ, zero, suc, ◌+◌, ◌*◌, ◌<◌, ◌≤◌, Bool, true, false, List, [], ◌∷◌, ◌++◌, length, Some, None, refl, sym, ap, subst, ◌∙◌, arith, inl, inr}
use Rattle.std.specs.Prelude.{slice_get}
use Rattle.std.proofs.lemmas.Bool.{cases_lt}
use Rattle.wasm_tree.specs.declared.kinds.ValueType.TheVariants.{I32, I64}
use Rattle.wasm_tree.specs.declared.instr.Instr.{Instr}
use Rattle.wasm_tree.specs.Validity.{Context, Leads}
use Rattle.typed_tree.specs.declared.typed_module.Routine.{Routine}
use Rattle.typed_tree.specs.declared.typed_module.TypedModule.{TypedModule}
use Rattle.layout_storage.specs.Types.{Ty}
use Rattle.layout_storage.specs.Frames.{formals_of}
use Rattle.def_scheme.specs.Scheme.{type_from}
use Rattle.def_scheme.specs.Coded.{Coded, Counts, Setting, plain, ◌⨾◌, nothing, within, with_address, with_number, with_text, with_setting, put, stop, copy, fill, check, quotient, remainder, body_index}
use Rattle.def_scheme.specs.Exprs.{Numbered, all_arguments, has_result}
use Rattle.def_scheme.specs.Signatures.{Signatures, Signature, signature, is_among, results_of, type_of}
use Rattle.def_scheme.specs.Steps.{if_else, leaving, under, in_block}
use Rattle.law_modules.proofs.Leading.{Stack, then_leads, above, Callable, done, block, one_of}

-- ---- a function in the making, and what it may name

-- its module, the types of functions that have numbers there, and its locals
pub record Body : Type 0 where
  pub home : TypedModule
  pub numbered : Numbered
  pub known : Signatures
  pub frames : List Ty
  pub arguments : ℕ
  -- so many locals for addresses, and for numbers
  pub addresses : ℕ
  pub numbers : ℕ
  -- whether it gives a value
  pub gives : Bool
  pub base : Context

abbrev pub at : Body → (exit : ℕ) → (withs : List ℕ) → Setting
at b e ws = record {
  home = b.home;
  frames = b.frames;
  arguments = b.arguments;
  addresses = b.addresses;
  exit = e;
  withs = ws;
}

abbrev pub labelled : Body → List Stack → Context
labelled b ls = record (b.base) { labels = ls }

abbrev pub IsAddress : Body → ℕ → Type 0
IsAddress b n = slice_get b.base.locals n ≡ Some I32

abbrev pub IsNumber : Body → ℕ → Type 0
IsNumber b n = slice_get b.base.locals n ≡ Some I64

pub record Holds (b : Body) : Type 0 where
  pub memory : 0 < length b.base.memories
  pub table : 0 < length b.base.tables
  pub put : Callable b.base put (type_from (I64 ∷ []) [])
  pub stop : Callable b.base stop (type_from (I64 ∷ []) [])
  pub copy : Callable b.base copy (type_from (I32 ∷ I32 ∷ I32 ∷ []) [])
  pub fill : Callable b.base fill (type_from (I32 ∷ I32 ∷ []) [])
  pub check : Callable b.base check (type_from (I64 ∷ I64 ∷ I64 ∷ I64 ∷ []) (I64 ∷ []))
  pub quotient : Callable b.base quotient (type_from (I64 ∷ I64 ∷ []) (I64 ∷ []))
  pub remainder : Callable b.base remainder (type_from (I64 ∷ I64 ∷ []) (I64 ∷ []))
  pub global : (k : ℕ) → k < 4 + 2 * length b.home.imports → slice_get b.base.globals k ≡ Some I32
  pub procedure : (k : ℕ) (r : Routine) → slice_get b.home.procedures k ≡ Some r
      → Callable b.base (suc body_index + k)
      (type_of (signature (all_arguments (formals_of b.home.types r.heading)) (has_result b.home.types r.heading)))
  pub nested : (k : ℕ) (r : Routine) → slice_get b.home.locals k ≡ Some r
      → Callable b.base (suc body_index + (length b.home.procedures + k))
      (type_of (signature (suc (all_arguments (formals_of b.home.types r.heading)))
      (has_result b.home.types r.heading)))
  pub typed : (s : Signature) → is_among b.known s ≡ true
      → slice_get b.base.types (b.numbered s.arguments s.result) ≡ Some (type_of s)
  pub frame : IsAddress b 0
  pub top : IsAddress b b.arguments
  pub address : (k : ℕ) → k < b.addresses → IsAddress b (b.arguments + (2 + k))
  pub number : (k : ℕ) → k < b.numbers → IsNumber b (b.arguments + (2 + (b.addresses + k)))
  pub returns : b.base.returns ≡ results_of b.gives

-- ---- where code stands: the records of WITHs are in locals, and EXIT has a label

pub record Suits (b : Body) (withs : ℕ) (looped : Bool) (e : ℕ) (ws : List ℕ) (ls : List Stack) : Type 0 where
  pub count : length ws ≡ withs
  pub opened : (k : ℕ) → k < withs → (n : ℕ) × (slice_get ws k ≡ Some n) × IsAddress b n
  pub exit : looped ≡ true → slice_get ls e ≡ Some []

-- Labels of blocks around it, each of which takes nothing.
abbrev pub blocks : ℕ → List Stack
blocks zero = []
blocks (suc n) = [] ∷ blocks n

-- Under a premise the code takes these operands and gives those. It stands within n more blocks than its setting says,
-- with
-- the label of EXIT shifted, and it needs k locals for addresses.
pub record Fits (b : Body) (P : Type 0) (withs : ℕ) (looped : Bool) (shift : ℕ → ℕ) (n : ℕ) (x : Coded) (k : ℕ)
    (takes gives : Stack) : Type 0 where
  pub numbers : (e : ℕ) (ws : List ℕ) (c : Counts) → c.numbers ≤ (x (at b (shift e) ws) c).1.numbers
  pub addresses : (e : ℕ) (ws : List ℕ) (c : Counts) → (x (at b (shift e) ws) c).1.addresses ≡ c.addresses + k
  pub leads : P → (e : ℕ) (ws : List ℕ) (c : Counts) (ls : List Stack) → Suits b withs looped e ws ls
      → (x (at b (shift e) ws) c).1.numbers ≤ b.numbers → c.addresses + k ≤ b.addresses
      → Leads (labelled b (blocks n ++ ls)) (x (at b (shift e) ws) c).0 takes gives

-- ---- labels

behind_labels : (low ls : List Stack) (e : ℕ) → slice_get (low ++ ls) (e + length low) ≡ slice_get ls e
behind_labels [] ls e = let i : e + 0 ≡ e = omega arith in ap (λ (k : ℕ). slice_get ls k) i
behind_labels (t ∷ low) ls e = let i : e + suc (length low) ≡ suc (e + length low) = omega arith in
    ap (λ (k : ℕ). slice_get (t ∷ (low ++ ls)) k) i ∙ behind_labels low ls e

module _ {b : Body} {w : ℕ} {l : Bool} {e : ℕ} {ws : List ℕ} {ls : List Stack} where
  pub inside : (low : List Stack) (n : ℕ) → length low ≡ n → Suits b w l e ws ls → Suits b w l (e + n) ws (low ++ ls)
  inside low n count s = record {
    count = s.count;
    opened = s.opened;
    exit = λ p. ap (λ (k : ℕ). slice_get (low ++ ls) (e + k)) (sym count) ∙ behind_labels low ls e ∙ s.exit p;
  }

  pub inside_one : (t : Stack) → Suits b w l e ws ls → Suits b w l (suc e) ws (t ∷ ls)
  inside_one t s = record { count = s.count; opened = s.opened; exit = s.exit }

  pub begun : Suits b w l e ws ls → Suits b w true 1 ws ([] ∷ [] ∷ ls)
  begun s = record { count = s.count; opened = s.opened; exit = λ p. refl }

  pub left : Suits b w l e ws ls → Suits b w false e ws ls
  left s = record { count = s.count; opened = s.opened; exit = λ p. absurd cc }

-- ---- one record of WITH more

last_is : (ws : List ℕ) (n : ℕ) → slice_get (ws ++ n ∷ []) (length ws) ≡ Some n
last_is [] n = refl
last_is (x ∷ ws) n = last_is ws n

still_is : (ws : List ℕ) (n k x : ℕ) → slice_get ws k ≡ Some x → slice_get (ws ++ n ∷ []) k ≡ Some x
still_is [] n k x h = absurd cc
still_is (y ∷ ws) n zero x h = h
still_is (y ∷ ws) n (suc k) x h = still_is ws n k x h

count_more : (ws : List ℕ) (n : ℕ) → length (ws ++ n ∷ []) ≡ suc (length ws)
count_more [] n = refl
count_more (x ∷ ws) n = ap suc (count_more ws n)

opened_more : (b : Body) (w : ℕ) (ws : List ℕ) (n : ℕ) → length ws ≡ w → IsAddress b n
    → ((k : ℕ) → k < w → (x : ℕ) × (slice_get ws k ≡ Some x) × IsAddress b x)
    → (k : ℕ) → k < suc w → (x : ℕ) × (slice_get (ws ++ n ∷ []) k ≡ Some x) × IsAddress b x
opened_more b w ws n count there all k lt = elim (cases_lt k w) [
  | inl less ↦ let one = all k less in (one.0, still_is ws n k one.0 one.1, one.2)
  | inr same ↦ (
    n,
    ap (λ (j : ℕ). slice_get (ws ++ n ∷ []) j)
        (let e : k ≡ length ws = omega (arith, same, lt, count) in e) ∙ last_is ws n,
    there,
  )
]

module _ {b : Body} {w : ℕ} {l : Bool} {e : ℕ} {ws : List ℕ} {ls : List Stack} where
  one_more : (n : ℕ) → IsAddress b n → Suits b w l e ws ls → Suits b (suc w) l e (ws ++ n ∷ []) ls
  one_more n there s = record {
    count = count_more ws n ∙ ap suc s.count;
    opened =
        opened_more b w ws n s.count there s.opened;
    exit = s.exit;
  }

-- ---- blocks that take nothing

pub blocks_count : (n : ℕ) → length (blocks n) ≡ n
blocks_count zero = refl
blocks_count (suc n) = ap suc (blocks_count n)

pub block_label : (n k : ℕ) (ls : List Stack) → k < n → slice_get (blocks n ++ ls) k ≡ Some []
block_label zero k ls lt = absurd (omega (arith, lt))
block_label (suc n) zero ls lt = refl
block_label (suc n) (suc k) ls lt = block_label n k ls (omega (arith, lt))

module _ {b : Body} {w : ℕ} {l : Bool} where
  pub moved : (n e : ℕ) (ws : List ℕ) (ls : List Stack) → Suits b w l e ws ls → Suits b w l (e + n) ws (blocks n ++ ls)
  moved n e ws ls s = inside (blocks n) n (blocks_count n) s

  pub moved_twice : (e : ℕ) (ws : List ℕ) (ls : List Stack) → Suits b w l e ws ls
      → Suits b w l (e + 1 + 1) ws ([] ∷ [] ∷ ls)
  moved_twice e ws ls s = inside ([] ∷ []) 1 refl (inside ([] ∷ []) 1 refl s)

  pub into_loop : (e : ℕ) (ws : List ℕ) (ls : List Stack) → Suits b w l e ws ls → Suits b w true 1 ws ([] ∷ [] ∷ ls)
  into_loop e ws ls s = begun s

-- ---- what code is put together of

module _ {b : Body} {P : Type 0} {w : ℕ} {l : Bool} {shift : ℕ → ℕ} {n : ℕ} where
  pub fits_code : {f : Setting → List Instr} {s t : Stack}
      → (P → (e : ℕ) (ws : List ℕ) (ls : List Stack) → Suits b w l e ws ls
      → Leads (labelled b (blocks n ++ ls)) (f (at b (shift e) ws)) s t)
      → Fits b P w l shift n (with_setting (λ s. plain (f s))) 0 s t
  fits_code h = record {
    numbers = λ e ws c. omega arith;
    addresses = λ e ws c. omega arith;
    leads =
        λ p e ws c ls suits room few. h p e ws ls suits;
  }

  pub fits_plain : {code : List Instr} {s t : Stack}
      → (P → (ls : List Stack) → Leads (labelled b (blocks n ++ ls)) code s t) → Fits b P w l shift n (plain code) 0 s t
  fits_plain h = record {
    numbers = λ e ws c. omega arith;
    addresses = λ e ws c. omega arith;
    leads =
        λ p e ws c ls suits room few. h p ls;
  }

  pub fits_nothing : (s : Stack) → Fits b P w l shift n nothing 0 s s
  fits_nothing s = fits_plain (λ p ls. done s)

  pub fits_then : {x y : Coded} {k j : ℕ} {s t u : Stack} → Fits b P w l shift n x k s t → Fits b P w l shift n y j t u
      → Fits b P w l shift n (x ⨾ y) (k + j) s u
  fits_then {x = x} {y = y} {k = k} {j = j} p q = record {
    numbers = λ e ws c. let f = p.numbers e ws c in let g = q.numbers e ws (x (at b (shift e) ws) c).1 in
        omega (arith, f, g);
    addresses = λ e ws c. let f = p.addresses e ws c in let g = q.addresses e ws (x (at b (shift e) ws) c).1 in
        omega (arith, f, g);
    leads = λ h e ws c ls suits room few.
        let d : Counts = (x (at b (shift e) ws) c).1 in let g = q.numbers e ws d in let f = p.addresses e ws c in
        then_leads (p.leads h e ws c ls suits (omega (arith, g, room)) (omega (arith, few)))
        (q.leads h e ws d ls suits room (omega (arith, f, few)));
  }

  pub fits_above : (low : Stack) {x : Coded} {k : ℕ} {s t : Stack} → Fits b P w l shift n x k s t
      → Fits b P w l shift n x k (low ++ s) (low ++ t)
  fits_above low p = record {
    numbers = p.numbers;
    addresses = p.addresses;
    leads =
        λ h e ws c ls suits room few. above low (p.leads h e ws c ls suits room few);
  }

  pub fits_given : {Q : Type 0} {x : Coded} {k : ℕ} {s t : Stack} → (P → Q) → Fits b Q w l shift n x k s t
      → Fits b P w l shift n x k s t
  fits_given f p = record {
    numbers = p.numbers;
    addresses = p.addresses;
    leads =
        λ h e ws c ls suits room few. p.leads (f h) e ws c ls suits room few;
  }

  -- the same as something else
  pub fits_as : {x y : Coded} {k j : ℕ} {s t : Stack} → x ≡ y → k ≡ j → Fits b P w l shift n y j s t
      → Fits b P w l shift n x k s t
  fits_as {y = y} {k = k} {j = j} {s = s} {t = t} p q h =
      subst (λ (z : Coded). Fits b P w l shift n z k s t) (sym p)
      (subst (λ (i : ℕ). Fits b P w l shift n y i s t) (sym q) h)

  pub fits_stacks : {x : Coded} {k : ℕ} {s s' t t' : Stack} → s ≡ s' → t ≡ t' → Fits b P w l shift n x k s t
      → Fits b P w l shift n x k s' t'
  fits_stacks {x = x} {k = k} {s = s} {s' = s'} {t = t} p q h =
      subst (λ (y : Stack). Fits b P w l shift n x k s' y) q (subst (λ (y : Stack). Fits b P w l shift n x k y t) p h)

  pub fits_number : {f : ℕ → Coded} {k : ℕ} {s t : Stack} → Holds b
      → ((i : ℕ) → Fits b (P × IsNumber b i) w l shift n (f i) k s t) → Fits b P w l shift n (with_number f) k s t
  fits_number {f = f} h p = record {
    numbers = λ e ws c. let i = (p (number_at c)).numbers e ws (next c) in omega (arith, i);
    addresses = λ e ws c. (p (number_at c)).addresses e ws (next c);
    leads = λ g e ws c ls suits room few.
        let i = (p (number_at c)).numbers e ws (next c) in
        (p (number_at c)).leads (g, h.number c.numbers (omega (arith, i, room))) e ws (next c) ls suits room few;
  }
    where
      number_at : Counts → ℕ
      number_at c = b.arguments + (2 + (b.addresses + c.numbers))

      next : Counts → Counts
      next c = record c { numbers = suc c.numbers }

  pub fits_address : {f : ℕ → Coded} {k : ℕ} {s t : Stack} → Holds b
      → ((i : ℕ) → Fits b (P × IsAddress b i) w l shift n (f i) k s t)
      → Fits b P w l shift n (with_address f) (suc k) s t
  fits_address {f = f} {k = k} h p = record {
    numbers = λ e ws c. (p (address_at c)).numbers e ws (next c);
    addresses = λ e ws c. let i = (p (address_at c)).addresses e ws (next c) in omega (arith, i);
    leads = λ g e ws c ls suits room few. (p (address_at c)).leads (g, h.address c.addresses (omega (arith, few))) e ws
        (next c) ls suits room (omega (arith, few));
  }
    where
      address_at : Counts → ℕ
      address_at c = b.arguments + (2 + c.addresses)

      next : Counts → Counts
      next c = record c { addresses = suc c.addresses }

  pub fits_text : (bytes : ℕ) {f : ℕ → Coded} {k : ℕ} {s t : Stack} → ((i : ℕ) → Fits b P w l shift n (f i) k s t)
      → Fits b P w l shift n (with_text bytes f) k s t
  fits_text bytes p = record {
    numbers = λ e ws c. (p c.texts).numbers e ws (record c { texts = c.texts + bytes });
    addresses = λ e ws c. (p c.texts).addresses e ws (record c { texts = c.texts + bytes });
    leads = λ g e ws c ls suits room few. (p c.texts).leads g e ws (record c { texts = c.texts + bytes }) ls suits room
        few;
  }

  -- code that fits anywhere, within more blocks
  pub fits_moved : {l' : Bool} {x : Coded} {k : ℕ} {s t : Stack}
      → ((e : ℕ) (ws : List ℕ) (ls : List Stack) → Suits b w l e ws ls → Suits b w l' (shift e) ws (blocks n ++ ls))
      → Fits b P w l' (λ e. e) 0 x k s t → Fits b P w l shift n x k s t
  fits_moved move p = record {
    numbers = λ e ws c. p.numbers (shift e) ws c;
    addresses = λ e ws c. p.addresses (shift e) ws c;
    leads = λ g e ws c ls suits room few. p.leads g (shift e) ws c (blocks n ++ ls) (move e ws ls suits) room few;
  }

  -- a block or a loop in which the label of EXIT is one further away
  pub fits_within : {wrap : List Instr → List Instr} {x : Coded} {k : ℕ} {s t s' t' : Stack}
      → (P → (ls : List Stack) (code : List Instr) → Leads (labelled b ([] ∷ (blocks n ++ ls))) code s t
      → Leads (labelled b (blocks n ++ ls)) (wrap code) s' t') → Fits b P w l (λ e. shift e + 1) (suc n) x k s t
      → Fits b P w l shift n (within 1 wrap x) k s' t'
  fits_within {x = x} wraps p = record {
    numbers = λ e ws c. p.numbers e ws c;
    addresses = λ e ws c. p.addresses e ws c;
    leads = λ g e ws c ls suits room few. wraps g ls (x (at b (shift e + 1) ws) c).0
        (p.leads g e ws c ls suits room few);
  }

  -- a block in which no EXIT stands
  pub fits_boxed : {x : Coded} {k : ℕ} → Fits b P w l shift (suc n) x k [] []
      → Fits b P w l shift n (in_block x) k [] []
  fits_boxed {x = x} p = record {
    numbers = λ e ws c. p.numbers e ws c;
    addresses = λ e ws c. p.addresses e ws c;
    leads = λ g e ws c ls suits room few. block None [] (x (at b (shift e) ws) c).0 (p.leads g e ws c ls suits room few)
        (done []);
  }

module _ {b : Body} {P : Type 0} {w : ℕ} {l : Bool} where
  -- a block that leaves operands
  pub fits_valued : (taken : Stack) {wrap : List Instr → List Instr} {x : Coded} {k : ℕ} {s t s' t' : Stack}
      → ((ls : List Stack) (code : List Instr) → Leads (labelled b (taken ∷ ls)) code s t
      → Leads (labelled b ls) (wrap code) s' t') → Fits b P w l (λ e. e) 0 x k s t
      → Fits b P w l (λ e. e) 0 (within 1 wrap x) k s' t'
  fits_valued taken {x = x} wraps p = record {
    numbers = λ e ws c. p.numbers (e + 1) ws c;
    addresses = λ e ws c. p.addresses (e + 1) ws c;
    leads = λ g e ws c ls suits room few. wraps ls (x (at b (e + 1) ws) c).0
        (p.leads g (e + 1) ws c (taken ∷ ls) (inside (taken ∷ []) 1 refl suits) room few);
  }

  pub fits_twice : {wrap : List Instr → List Instr} {x : Coded} {k : ℕ} {s t s' t' : Stack}
      → ((ls : List Stack) (code : List Instr) → Leads (labelled b ([] ∷ [] ∷ ls)) code s t
      → Leads (labelled b ls) (wrap code) s' t') → Fits b P w l (λ e. e + 2) 2 x k s t
      → Fits b P w l (λ e. e) 0 (within 2 wrap x) k s' t'
  fits_twice {x = x} wraps p = record {
    numbers = λ e ws c. p.numbers e ws c;
    addresses = λ e ws c. p.addresses e ws c;
    leads = λ g e ws c ls suits room few. wraps ls (x (at b (e + 2) ws) c).0 (p.leads g e ws c ls suits room few);
  }

  -- the body of a LOOP
  pub fits_leaving : {wrap : List Instr → List Instr} {x : Coded} {k : ℕ} {s t s' t' : Stack}
      → ((ls : List Stack) (code : List Instr) → Leads (labelled b ([] ∷ [] ∷ ls)) code s t
      → Leads (labelled b ls) (wrap code) s' t') → Fits b P w l (λ e. 1) 2 x k s t
      → Fits b P w l (λ e. e) 0 (leaving 1 wrap x) k s' t'
  fits_leaving {x = x} wraps p = record {
    numbers = λ e ws c. p.numbers e ws c;
    addresses = λ e ws c. p.addresses e ws c;
    leads = λ g e ws c ls suits room few. wraps ls (x (at b 1 ws) c).0 (p.leads g e ws c ls suits room few);
  }

  -- the body of a WITH
  pub fits_under : {i : ℕ} {x : Coded} {k : ℕ} {s t : Stack} → (P → IsAddress b i)
      → Fits b P (suc w) l (λ e. e) 0 x k s t → Fits b P w l (λ e. e) 0 (under i x) k s t
  fits_under {i = i} there p = record {
    numbers = λ e ws c. p.numbers e (ws ++ i ∷ []) c;
    addresses = λ e ws c. p.addresses e (ws ++ i ∷ []) c;
    leads = λ g e ws c ls suits room few. p.leads g e (ws ++ i ∷ []) c ls (one_more i (there g) suits) room few;
  }

  pub fits_sides : {x y : Coded} {k j : ℕ} → Fits b P w l (λ e. e) 0 x k [] [] → Fits b P w l (λ e. e) 0 y j [] []
      → Fits b P w l (λ e. e) 0 (if_else x y) (k + j) (I32 ∷ []) []
  fits_sides {x = x} {y = y} {k = k} {j = j} p q = record {
    numbers = λ e ws c. let f = p.numbers (suc e) ws c in let g = q.numbers (suc e) ws (x (at b (suc e) ws) c).1 in
        omega (arith, f, g);
    addresses = λ e ws c. let f = p.addresses (suc e) ws c in
        let g = q.addresses (suc e) ws (x (at b (suc e) ws) c).1 in omega (arith, f, g);
    leads = λ h e ws c ls suits room few.
        let d : Counts = (x (at b (suc e) ws) c).1 in let g = q.numbers (suc e) ws d in
        let f = p.addresses (suc e) ws c in
        one_of None [] (x (at b (suc e) ws) c).0 (Some (y (at b (suc e) ws) d).0)
        (p.leads h (suc e) ws c ([] ∷ ls) (inside_one [] suits) (omega (arith, g, room)) (omega (arith, few)))
        (q.leads h (suc e) ws d ([] ∷ ls) (inside_one [] suits) room (omega (arith, f, few))) (done []);
  }

  -- the same code within so many blocks, of which its setting knows
  pub fits_inside : (n : ℕ) {x : Coded} {k : ℕ} {s t : Stack} → Fits b P w l (λ e. e) 0 x k s t
      → Fits b P w l (λ e. e) n (within n (λ code. code) x) k s t
  fits_inside n {x = x} p = record {
    numbers = λ e ws c. p.numbers (e + n) ws c;
    addresses = λ e ws c. p.addresses (e + n) ws c;
    leads = λ g e ws c ls suits room few. p.leads g (e + n) ws c (blocks n ++ ls) (moved n e ws ls suits) room few;
  }
