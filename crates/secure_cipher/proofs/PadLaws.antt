-- What the paddings do to a list: its length, its bytes, its blocks; and unpadding undoes the data's.
-- Assumes nothing.
use mathlib.Core.Path.{◌≡◌, refl, sym, ap, ap₂, ◌∙◌}
use mathlib.Core.Bool.{Bool, true, false, cond}
use mathlib.Core.List.{List, [], ◌∷◌, ◌++◌, append_assoc}
use Prim.Native.Nat.{ℕ, zero, suc, ◌+◌, ◌-◌, ◌*◌, ◌/◌, ◌%◌, ◌≤◌, ◌<◌}
use native.Mathlib.Nat.{add-zero, add-suc, zero-add, suc-add}
use native.Mathlib.Omega.{arith}
use borrow.Author.Tests.{eq-eqb, ne_eqb, eqb-true, eqb-false, lt-ltb, le-ltb}
use lib.Dec.{ltb, eqb, lit<}
use lib.ListN.{length, take, drop, get_or, replicate, set, length-append, length-drop, length-replicate, get_or-replicate}
use lib.Seq.{take-append_seam, get_or-append_seam, get_or-append-add, take-append-le, drop-append-le, take_all, take-suc, take-length, set_at, append_snoc, length-take-le}
use Rattle.laws.specs.Answer.{Answer.given, Answer.refused}
use Rattle.laws.specs.Bytes.{Bytes, zeros}
use Rattle.laws.specs.Over.{write}
use Rattle.laws.proofs.Answers.{given-refused, refuse_true, refuse_false}
use Rattle.laws.proofs.Overwrite.{set-write, write-write, length-write}
use Rattle.laws.proofs.ByteLists.{bytes-append, bytes_cons, bytes-zeros}
use Rattle.secure_cipher.specs.Pad.{tail80, pad_mac, pad_data, unpad_from, unpad, fitting}

-- ---- the data's padding

pub length-tail80 : (n : ℕ) → length (tail80 n) ≡ 16 - n % 16
unfolding tail80
length-tail80 n = omega (arith, length-replicate {A = ℕ} (15 - n % 16) 0)

pub length-pad_data : (l : List ℕ) → length (pad_data l) ≡ (length l / 16 + 1) * 16
unfolding pad_data
length-pad_data l = omega (arith, length-append l (tail80 (length l)), length-tail80 (length l))

pub pad_data_front : (l : List ℕ) → take (length l) (pad_data l) ≡ l
unfolding pad_data
pad_data_front l = take-append_seam l (tail80 (length l))

pub bytes-pad_data : (l : List ℕ) → Bytes l → Bytes (pad_data l)
unfolding pad_data tail80
bytes-pad_data l b = bytes-append l (tail80 (length l)) b (bytes_cons 0x80 (zeros (15 - length l % 16)) (lit< tt) (bytes-zeros (15 - length l % 16)))

-- ---- the MAC's padding

pub pad_mac_whole : (l : List ℕ) → length l % 16 ≡ 0 → pad_mac l ≡ l
unfolding pad_mac
pad_mac_whole l h = rw (eq-eqb (length l % 16) 0 h)

pub pad_mac_part : (l : List ℕ) → (length l % 16 ≡ 0 → ⊥) → pad_mac l ≡ pad_data l
unfolding pad_mac pad_data
pad_mac_part l h = rw (ne_eqb (length l % 16) 0 h)

-- what holds of both paddings, where each applies, holds of the MAC's
pub pad_mac_by : (P : List ℕ → Type 0) (l : List ℕ) → (length l % 16 ≡ 0 → P l) → ((length l % 16 ≡ 0 → ⊥) → P (pad_data l)) → P (pad_mac l)
pad_mac_by P l f g = go (eqb (length l % 16) 0) refl
  where
    go : (t : Bool) → eqb (length l % 16) 0 ≡ t → P (pad_mac l)
    go true e = let h : length l % 16 ≡ 0 = eqb-true _ _ e in rw (pad_mac_whole l h) (f h)
    go false e = let h : length l % 16 ≡ 0 → ⊥ = eqb-false _ _ e in rw (pad_mac_part l h) (g h)

pub length-pad_mac : (l : List ℕ) → length (pad_mac l) ≡ (length l + 15) / 16 * 16
length-pad_mac l = pad_mac_by (λ (m : List ℕ). length m ≡ (length l + 15) / 16 * 16) l (λ h. omega arith) (λ h. omega (arith, length-pad_data l, h))

pub bytes-pad_mac : (l : List ℕ) → Bytes l → Bytes (pad_mac l)
bytes-pad_mac l b = pad_mac_by Bytes l (λ h. b) (λ h. bytes-pad_data l b)

-- ---- blocks of a padded list

drop-pad_data : (l : List ℕ) (at : ℕ) → at ≤ length l → drop at (pad_data l) ≡ drop at l ++ tail80 (length l)
unfolding pad_data
drop-pad_data l at h = drop-append-le at l (tail80 (length l)) h

-- a block that lies in the list
pub pad_data_in : (l : List ℕ) (at : ℕ) → at + 16 ≤ length l → take 16 (drop at l) ≡ take 16 (drop at (pad_data l))
pad_data_in l at h =
    sym (ap (take 16) (drop-pad_data l at (omega arith)) ∙ take-append-le 16 (drop at l) (tail80 (length l)) (omega (arith, length-drop at l)))

-- the last block
pub pad_data_last : (l : List ℕ) (at : ℕ) → at ≡ length l / 16 * 16 → drop (length l / 16 * 16) (pad_data l) ≡ take 16 (drop at (pad_data l))
pad_data_last l at e =
    sym (take_all 16 (drop at (pad_data l)) (omega (arith, length-drop at (pad_data l), length-pad_data l)) ∙ ap (λ (n : ℕ). drop n (pad_data l)) e)

pub pad_mac_last : (l : List ℕ) → (length l % 16 ≡ 0 → ⊥) → drop (length l / 16 * 16) (pad_data l) ≡ take 16 (drop ((length l - 1) / 16 * 16) (pad_mac l))
pad_mac_last l h = rw (pad_mac_part l h) (pad_data_last l ((length l - 1) / 16 * 16) (omega (arith, h)))

pub pad_mac-full : (l : List ℕ) (at : ℕ) → at ≡ (length l - 1) / 16 * 16 → length l % 16 ≡ 0 → take 16 (drop at l) ≡ take 16 (drop ((length l - 1) / 16 * 16) (pad_mac l))
pad_mac-full l at e h = rw (pad_mac_whole l h, e)

-- ---- unpadding

unpad-zeros : (x : List ℕ) (m k : ℕ) → k ≤ m → unpad_from (suc (length x + k)) (x ++ 0x80 ∷ zeros m) ≡ given (length x)
unfolding unpad_from
unpad-zeros x m zero h = rw (add-zero, get_or-append_seam)
unpad-zeros x m (suc k) h =
    rw (get_or-append-add x (0x80 ∷ replicate m 0) (suc k) 0, get_or-replicate {A = ℕ} m k 0 0 h, add-suc) (unpad-zeros x m k (omega arith))

-- unpadding undoes the data's padding
pub unpad-pad_data : (l : List ℕ) → unpad (pad_data l) ≡ given (length l)
unfolding unpad pad_data tail80
unpad-pad_data l =
    let e : length (l ++ 0x80 ∷ zeros (15 - length l % 16)) ≡ suc (length l + (15 - length l % 16)) = simp (length-append, length-replicate) (omega arith) in
    rw e (unpad-zeros l (15 - length l % 16) (15 - length l % 16) (omega arith))

-- ---- a step of unpadding, from i to the j before it

module _ (l : List ℕ) (i j : ℕ) (h : i ≡ suc j) where
  unpad-zero : get_or l j 0 ≡ 0 → unpad_from j l ≡ unpad_from i l
  unfolding unpad_from
  unpad-zero e = rw (h, e)

  unpad-found : get_or l j 0 ≡ 0x80 → given j ≡ unpad_from i l
  unfolding unpad_from
  unpad-found e = rw (h, e)

  unpad-bad : (get_or l j 0 ≡ 0 → ⊥) → (get_or l j 0 ≡ 0x80 → ⊥) → refused 14 [] ≡ unpad_from i l
  unfolding unpad_from
  unpad-bad e f = rw (h, ne_eqb (get_or l j 0) 0 e, ne_eqb (get_or l j 0) 0x80 f)

unpad_none : (l : List ℕ) (i : ℕ) → i ≡ 0 → refused 14 [] ≡ unpad_from i l
unfolding unpad_from
unpad_none l i h = rw h

-- ---- unpadding by the last byte that is not zero

unpad_skip : (l : List ℕ) (j n : ℕ) → ((k : ℕ) → j ≤ k → k < j + n → get_or l k 0 ≡ 0) → unpad_from j l ≡ unpad_from (j + n) l
unpad_skip l j zero z = rw add-zero
unpad_skip l j (suc n) z =
    unpad_skip l j n (λ k a b. z k a (omega (arith, b))) ∙ unpad-zero l (j + suc n) (j + n) (omega arith) (z (j + n) (omega arith) (omega arith))

unpad_over : (l : List ℕ) (j : ℕ) → j ≤ length l → ((k : ℕ) → j ≤ k → k < length l → get_or l k 0 ≡ 0) → unpad_from j l ≡ unpad l
unfolding unpad
unpad_over l j h z =
    let e : j + (length l - j) ≡ length l = omega (arith, h) in
    unpad_skip l j (length l - j) (λ k a b. z k a (omega (arith, b, e))) ∙ ap (λ (n : ℕ). unpad_from n l) e

pub unpad_blank : (l : List ℕ) → ((k : ℕ) → k < length l → get_or l k 0 ≡ 0) → refused 14 [] ≡ unpad l
unpad_blank l z = unpad_none l 0 refl ∙ unpad_over l 0 (omega arith) (λ k a b. z k b)

module _ (l : List ℕ) (j : ℕ) (h : j < length l) (z : (k : ℕ) → j + 1 ≤ k → k < length l → get_or l k 0 ≡ 0) where
  pub unpad-last : get_or l j 0 ≡ 0x80 → given j ≡ unpad l
  unpad-last e = unpad-found l (j + 1) j (omega arith) e ∙ unpad_over l (j + 1) (omega arith) z

  pub unpad-other : (get_or l j 0 ≡ 0 → ⊥) → (get_or l j 0 ≡ 0x80 → ⊥) → refused 14 [] ≡ unpad l
  unpad-other e f = unpad-bad l (j + 1) j (omega arith) e f ∙ unpad_over l (j + 1) (omega arith) z

-- ---- unpadding refuses by 14 only

refused_step : (l : List ℕ) (i n : ℕ) (vs : List ℕ) (s t : Bool) → (unpad_from i l ≡ refused n vs → unpad_from i l ≡ refused 14 [])
    → cond s (unpad_from i l) (cond t (given i) (refused 14 [])) ≡ refused n vs → cond s (unpad_from i l) (cond t (given i) (refused 14 [])) ≡ refused 14 []
refused_step l i n vs true t r f = r f
refused_step l i n vs false true r f = absurd (given-refused f)
refused_step l i n vs false false r f = refl

refused-from : (l : List ℕ) (i n : ℕ) (vs : List ℕ) → unpad_from i l ≡ refused n vs → unpad_from i l ≡ refused 14 []
unfolding unpad_from
refused-from l zero n vs e = refl
refused-from l (suc i) n vs e = refused_step l i n vs (eqb (get_or l i 0) 0) (eqb (get_or l i 0) 0x80) (refused-from l i n vs) e

pub unpad-refused : (l : List ℕ) (n : ℕ) (vs : List ℕ) → unpad l ≡ refused n vs → unpad l ≡ refused 14 []
unfolding unpad
unpad-refused l n vs e = refused-from l (length l) n vs e

-- ---- what an unpadded list looks like

pub record Padded (l : List ℕ) (i j : ℕ) : Type 0 where
  pub less : j < i
  pub shape : take i l ≡ take j l ++ 0x80 ∷ zeros (i - suc j)

zeros_more : (n : ℕ) → zeros n ++ (0 ∷ []) ≡ zeros (suc n)
zeros_more zero = refl
zeros_more (suc n) = ap (λ (z : List ℕ). 0 ∷ z) (zeros_more n)

padded_found : (l : List ℕ) (i : ℕ) → i < length l → get_or l i 0 ≡ 0x80 → Padded l (suc i) i
padded_found l i h e =
    let z : suc i - suc i ≡ 0 = omega arith in
    record { less = omega arith; shape = take-suc l i 0 h ∙ rw (e, z) }

padded_more : (l : List ℕ) (i j : ℕ) → i < length l → get_or l i 0 ≡ 0 → Padded l i j → Padded l (suc i) j
padded_more l i j h e p =
    let z : suc i - suc j ≡ suc (i - suc j) = omega (arith, p.less) in
    record {
      less = omega (arith, p.less);
      shape =
          take-suc l i 0 h ∙ rw (e, p.shape, z)
          (append_assoc (take j l) (0x80 ∷ zeros (i - suc j)) (0 ∷ []) ∙ ap (λ (r : List ℕ). take j l ++ 0x80 ∷ r) (zeros_more (i - suc j)));
    }

padded_step : (l : List ℕ) (i j : ℕ) (s t : Bool) → i < length l → (unpad_from i l ≡ given j → Padded l i j) → eqb (get_or l i 0) 0 ≡ s → eqb (get_or l i 0) 0x80 ≡ t
    → cond s (unpad_from i l) (cond t (given i) (refused 14 [])) ≡ given j → Padded l (suc i) j
padded_step l i j true t h r hs ht f = padded_more l i j h (eqb-true (get_or l i 0) 0 hs) (r f)
padded_step l i j false true h r hs ht f =
    let z : i ≡ j = cc in
    rw (← z) (padded_found l i h (eqb-true (get_or l i 0) 0x80 ht))
padded_step l i j false false h r hs ht f = absurd (given-refused (sym f))

padded_from : (l : List ℕ) (i j : ℕ) → i ≤ length l → unpad_from i l ≡ given j → Padded l i j
unfolding unpad_from
padded_from l zero j h e = absurd (given-refused (sym e))
padded_from l (suc i) j h e = padded_step l i j (eqb (get_or l i 0) 0) (eqb (get_or l i 0) 0x80) h (padded_from l i j (omega arith)) refl refl e

-- with its 80 set to zero, a padded list is what was padded, and zeros
module _ (l : List ℕ) (j : ℕ) (e : unpad l ≡ given j) where
  padded : Padded l (length l) j
  unfolding unpad
  padded = padded_from l (length l) j (omega arith) e

  pub unpad-less : j < length l
  unpad-less = padded.less

  pub unpad-clear : set l j 0 ≡ take j l ++ zeros (length l - j)
  unpad-clear =
      let k : length l - j ≡ suc (length l - suc j) = omega (arith, unpad-less) in
      let s : l ≡ take j l ++ 0x80 ∷ zeros (length l - suc j) = sym (take-length l) ∙ padded.shape in
      ap (λ (x : List ℕ). set x j 0) s ∙ set_at (take j l) 0x80 (zeros (length l - suc j)) 0 j (length-take-le j l (omega (arith, unpad-less)))
      ∙ ap (λ (n : ℕ). take j l ++ zeros n) (sym k)

-- ---- the last block, as it is made: what is left of the list over zeros, and 80

drop-zeros : (m k : ℕ) → drop m (zeros (m + k)) ≡ zeros k
drop-zeros zero k = rw zero-add
drop-zeros (suc m) k = rw suc-add (drop-zeros m k)

pub last_made : (s o : List ℕ) (at rest : ℕ) → at ≡ length s / 16 * 16 → rest ≡ length s - at → o ≡ write (zeros 16) 0 (drop at s)
    → set o rest 0x80 ≡ drop (length s / 16 * 16) (pad_data s)
unfolding write tail80
last_made s o at rest ea er eo =
    let n : length (drop at s) ≡ rest = length-drop at s ∙ sym er in
    let d : 0 + length (drop at s) + suc (15 - length s % 16) ≡ 16 = omega (arith, n) in
    let z : drop (0 + length (drop at s)) (zeros 16) ≡ 0 ∷ zeros (15 - length s % 16) =
    ap (λ (m : ℕ). drop (0 + length (drop at s)) (zeros m)) (sym d) ∙ drop-zeros (0 + length (drop at s)) (suc (15 - length s % 16)) in
    rw (eo, z) (set_at (drop at s) 0 (zeros (15 - length s % 16)) 0x80 rest n ∙ sym (drop-pad_data s at (omega arith)) ∙ ap (λ (m : ℕ). drop m (pad_data s)) ea)

-- ---- the calls

module _ (x : List ℕ) (have need : ℕ) (e : need ≡ length x) where
  pub fitting-short : have < need → refused 18 (need ∷ have ∷ []) ≡ fitting x have
  unfolding fitting
  fitting-short h = rw (← e) (sym (refuse_true (ltb have need) 18 (need ∷ have ∷ []) (given x) (lt-ltb have need h)))

  pub fitting-good : need ≤ have → given x ≡ fitting x have
  unfolding fitting
  fitting-good h = rw (← e) (sym (refuse_false (ltb have need) 18 (need ∷ have ∷ []) (given x) (le-ltb have need h)))

-- the data's padding, as it is written: the bytes, 80, zeros
pub pad_made : (x o o₁ o₂ : List ℕ) (n need : ℕ) → n ≡ length x → need ≡ length (pad_data x) → need ≤ length o → o₁ ≡ write o 0 x
    → o₂ ≡ write (set o₁ n 0x80) (n + 1) (zeros (need - (n + 1))) → o₂ ≡ write o 0 (pad_data x)
unfolding pad_data tail80
pad_made x o o₁ o₂ n need en e h e₁ e₂ =
    let p = length-pad_data x in
    let q : length x < length o = omega (arith, length-append x (tail80 (length x)), length-tail80 (length x)) in
    let z : need - (n + 1) ≡ 15 - length x % 16 = omega (arith, length-append x (tail80 (length x)), length-tail80 (length x)) in
    let l : length o₁ ≡ length o = ap length e₁ ∙ length-write o 0 x (omega arith) in
    let m : length (x ++ (0x80 ∷ [])) ≡ n + 1 = length-append x (0x80 ∷ []) ∙ omega arith in
    let s : set o₁ n 0x80 ≡ write o 0 (x ++ (0x80 ∷ [])) =
    set-write o₁ n 0x80 (omega arith) ∙ ap (λ (y : List ℕ). write y n (0x80 ∷ [])) e₁ ∙ write-write o 0 x n (0x80 ∷ []) (omega arith) (omega arith) in
    e₂ ∙ ap₂ (λ (y : List ℕ) (k : ℕ). write y (n + 1) (zeros k)) s z
    ∙ write-write o 0 (x ++ (0x80 ∷ [])) (n + 1) (zeros (15 - length x % 16)) (omega arith) (omega (arith, length-replicate {A = ℕ} (15 - length x % 16) 0))
    ∙ ap (write o 0) (append_snoc x 0x80 (zeros (15 - length x % 16)))
