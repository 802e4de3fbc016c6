-- The place that shortest-left order picks is the one that its words describe, and the only one.
use Rattle.std.proofs.Common.{◌≡◌, ℕ, zero, suc, ◌+◌, ◌<◌, ◌≤◌, cond, Bool, ltb, List, [], ◌∷◌, map, length, get_or, drop, true, false, Some, None, Option, sym, refl, ap, ◌∙◌, subst, arith, Bor}
use denote.Param.Members.{Mut}
use Rattle.std.specs.Cmp.{IsStrictWeakOrder}
use Rattle.std.specs.Fn.{CalledAt}
use Rattle.std.specs.Iterator.{KeyTurn, PicksMinByKey}
use Rattle.std.specs.List.{FoldsTo, IsFirstBest, best_of, enumerate_from}
use Rattle.std.specs.Option.{option_map}
use Rattle.std.specs.Ordering.{nat_cmp, min_by_ordering}
use Rattle.std.specs.declared.cmp.Ordering.{Ordering}
use Rattle.std.specs.declared.cmp.Ordering.TheVariants.{Less, Equal, Greater}
use Rattle.std.proofs.lemmas.Bool.{ltb-true, ltb-false, cond_both}
use Rattle.std.proofs.lemmas.Bool.Decides.{nat_tests}
use Rattle.std.proofs.lemmas.Cmp.{ranked}
use Rattle.std.proofs.lemmas.Iterator.{YieldsList, items_from_drains}
use Rattle.std.proofs.lemmas.List.FromFn.{length-enumerate_from, get_or-enumerate_from}
use Rattle.std.proofs.lemmas.List.MinMax.{IsStrictWeakOrder-by_number, IsFirstBest-from_best_of}
use Rattle.waiting.specs.declared.request.WaitingRequest.{WaitingRequest}
use Rattle.waiting.specs.Requests.{unused}
use Rattle.waiting.specs.Rules.{left_at, Least, Shortest, shorter, shortest}

least_unique : (line : List WaitingRequest) (a b : ℕ) → Least line a → Least line b → a ≡ b
least_unique line a b la lb = grind (arith, la, lb)

-- q alone, or before others who have no fewer ticks left.
stays_first : (q : WaitingRequest) (line : List WaitingRequest) → ((k : ℕ) → k < length line → q.left ≤ left_at line k) → Least (q ∷ line) 0
stays_first q line h = record { within = omega arith; least = least; first = λ k k<0. absurd (omega arith) } where
  least : (k : ℕ) → k < length (q ∷ line) → q.left ≤ left_at (q ∷ line) k
  least zero inside = omega arith
  least (suc k) inside = h k (omega arith)

-- q before others of whom one has fewer ticks left.
comes_before : (q : WaitingRequest) (line : List WaitingRequest) (place : ℕ) → Least line place → left_at line place < q.left → Least (q ∷ line) (suc place)
comes_before q line place l h = record { within = omega (arith, l.within); least = least; first = first } where
  least : (k : ℕ) → k < length (q ∷ line) → left_at line place ≤ left_at (q ∷ line) k
  least zero inside = omega arith
  least (suc k) inside = l.least k (omega arith)

  first : (k : ℕ) → k < suc place → left_at line place < left_at (q ∷ line) k
  first zero inside = h
  first (suc k) inside = l.first k (omega arith)

shorter_is : (q : WaitingRequest) (line : List WaitingRequest) (place : Option ℕ) → Shortest line place → Shortest (q ∷ line) (shorter q line place)
shorter_is q line None e = stays_first q line (λ k h. absurd (omega (arith, ap length e)))
shorter_is q line (Some place) l =
    cond_both (ltb (left_at line place) q.left) (Some (suc place)) (Some 0) (Shortest (q ∷ line)) (λ t. comes_before q line place l (ltb-true _ _ t)) (λ f. stays_first q line (λ k h. omega (arith, ltb-false _ _ f, l.least k h)))

shortest_is : (line : List WaitingRequest) → Shortest line (shortest line)
shortest_is [] = refl
shortest_is (q ∷ line) = shorter_is q line (shortest line) (shortest_is line)

pub shortest_unique : (line : List WaitingRequest) (place other : Option ℕ) → Shortest line place → Shortest line other → place ≡ other
shortest_unique line None None p o = refl
shortest_unique line None (Some b) p o = absurd (omega (arith, o.within, ap length p))
shortest_unique line (Some a) None p o = absurd (omega (arith, p.within, ap length o))
shortest_unique line (Some a) (Some b) p o = ap Some (least_unique line a b p o)

pub shortest_from : (line : List WaitingRequest) (place : Option ℕ) → Shortest line place → place ≡ shortest line
shortest_from line place p = shortest_unique line place (shortest line) p (shortest_is line)

-- An item of a numbered list.
abbrev Item : Type 0
Item = ℕ × Bor WaitingRequest

-- What is read of it.
abbrev pub numbered : ℕ × Bor WaitingRequest → ℕ × WaitingRequest
numbered p = (p.0, p.1.now)

abbrev fewer : ℕ × WaitingRequest → ℕ × WaitingRequest → Bool
fewer a b = ltb a.1.left b.1.left

-- The first item of a numbered list has the first number, and the others are numbered on.
tail_numbered : (k : ℕ) (x : Item) (xs : List Item) (line : List WaitingRequest) → map numbered (x ∷ xs) ≡ enumerate_from k line → (x.0 ≡ k) × (rest : List WaitingRequest) × (map numbered xs ≡ enumerate_from (k + 1) rest)
tail_numbered k x xs [] e = absurd (omega (arith, ap length e))
tail_numbered k x xs (q ∷ line) e = (ap (λ (l : List (ℕ × WaitingRequest)). (get_or l 0 (0, unused)).0) e, line, ap (drop 1) e)

same_test : (a b c d : ℕ) → (a < b → c < d) → (c < d → a < b) → ltb a b ≡ ltb c d
same_test a b c d to from = go (ltb a b) (ltb c d) refl refl where
  go : (s t : Bool) → ltb a b ≡ s → ltb c d ≡ t → s ≡ t
  go true true _ _ = refl
  go false false _ _ = refl
  go true false e h = absurd (omega (arith, to (ltb-true _ _ e), ltb-false _ _ h))
  go false true e h = absurd (omega (arith, from (ltb-true _ _ h), ltb-false _ _ e))

-- What is kept of two items by the order of their keys is what is kept by the ticks left.
keeps : (a b : Item) (ka kb : ℕ) (o : Ordering) → nat_cmp ka kb ≡ o → ltb kb ka ≡ ltb b.1.now.left a.1.now.left → numbered (min_by_ordering o a b) ≡ cond (fewer (numbered b) (numbered a)) (numbered b) (numbered a)
keeps a b ka kb Less e same = grind (arith, nat_tests, ranked ka kb Less (sym e))
keeps a b ka kb Equal e same = grind (arith, nat_tests, ranked ka kb Equal (sym e))
keeps a b ka kb Greater e same = grind (arith, nat_tests, ranked ka kb Greater (sym e))

place_grows : (o : Ordering) (a b : Item) (k : ℕ) → a.0 < k → b.0 ≡ k → (min_by_ordering o a b).0 < k + 1
place_grows Less a b k l e = omega (arith, l)
place_grows Equal a b k l e = omega (arith, l)
place_grows Greater a b k l e = omega (arith, e)

-- `min_by_key` over a numbered list, where the later of two items has the smaller key exactly if it has fewer ticks left.
module _ {F : Type 0} (g : Mut F (Bor Item × Unit {0}) ℕ) (f : F) (stays : (x : Item) (n : ℕ) (q : F) → CalledAt g f x n q → q ≡ f) (keyed : (x y : Item) (n m : ℕ) (q r : F) → x.0 < y.0 → CalledAt g f x n q → CalledAt g f y m r → (m < n → y.1.now.left < x.1.now.left) × (y.1.now.left < x.1.now.left → m < n)) where
  remembers : (o : Ordering) (a b : Item) (ka kb : ℕ) (s t : F) → CalledAt g f a ka s → CalledAt g f b kb t → (w : F) × CalledAt g f (min_by_ordering o a b) (min_by_ordering o ka kb) w
  remembers Less a b ka kb s t ca cb = (s, ca)
  remembers Equal a b ka kb s t ca cb = (s, ca)
  remembers Greater a b ka kb s t ca cb = (t, cb)

  least_folds : (xs : List Item) (k : ℕ) (line : List WaitingRequest) (p q : (F × ℕ) × Item) (w : F) → map numbered xs ≡ enumerate_from k line → p.1.0 < k → p.0.0 ≡ f → CalledAt g f p.1 p.0.1 w → FoldsTo (KeyTurn min_by_ordering min_by_ordering g nat_cmp) p xs q → numbered q.1 ≡ best_of fewer (numbered p.1) (map numbered xs)
  least_folds [] k line p q w e l same known c = ap (λ z. numbered z.1) (sym c)
  least_folds (x ∷ xs) k line p q w e l same known (j, (n, o, called, cmp, key-is, item-is), rest) =
      let t = tail_numbered k x xs line e in
      let turn = subst (λ z. CalledAt g z x n j.0.0) same called in
      let r = keyed p.1 x p.0.1 n w j.0.0 (omega (arith, l, t.0)) known turn in
      let h = keeps p.1 x p.0.1 n o cmp (same_test n p.0.1 x.1.now.left p.1.1.now.left r.0 r.1) in
      let b = remembers o p.1 x p.0.1 n w j.0.0 known turn in
      let kept = subst (λ z. CalledAt g f z j.0.1 b.0) (sym item-is) (subst (λ z. CalledAt g f (min_by_ordering o p.1 x) z b.0) (sym key-is) b.1) in
      let below = subst (λ (z : Item). z.0 < k + 1) (sym item-is) (place_grows o p.1 x k l t.0) in
      least_folds xs (k + 1) t.1 j q b.0 t.2 below (stays x n j.0.0 turn) kept rest ∙ ap (λ z. best_of fewer z (map numbered xs)) (ap numbered item-is ∙ h)

ranks : IsStrictWeakOrder (λ (a b : ℕ × WaitingRequest). ltb a.1.left b.1.left)
ranks = IsStrictWeakOrder-by_number (λ a. a.1.left)

-- The best of a numbered line is numbered with the place that has the least ticks left.
least_numbered : (line : List WaitingRequest) (best first : ℕ × WaitingRequest) (others : List (ℕ × WaitingRequest)) → first ∷ others ≡ enumerate_from 0 line → best ≡ best_of (λ x y. ltb x.1.left y.1.left) first others → Least line best.0
least_numbered line best first others all is =
    let chosen = IsFirstBest-from_best_of ranks first others in
    let place = chosen.0 in
    let wins = subst (λ l. IsFirstBest (λ x y. ltb x.1.left y.1.left) l (length l) place) all chosen.1 in
    let same : length (enumerate_from 0 line) ≡ length line = length-enumerate_from 0 line in
    let within : place < length line = omega (arith, wins.0) in
    let at : (k : ℕ) → k < length line → (get_or (enumerate_from 0 line) k (0, unused)).1.left ≡ left_at line k = λ k l. ap (λ p. p.1.left) (get_or-enumerate_from 0 line k (0, unused) l) in
    let numbered : best.0 ≡ 0 + place = ap (λ p. p.0) (is ∙ sym chosen.2 ∙ ap (λ l. get_or l place first) all ∙ get_or-enumerate_from 0 line place first within) in
    let here : place ≡ best.0 = omega arith in
    subst (Least line) here (
    record {
      within = within;
      least = λ k l. omega (arith, ltb-false _ _ (wins.1 k (0, unused) (omega arith)), at k l, at place within);
      first = λ k l. omega (arith, ltb-true _ _ (wins.2 k (0, unused) l), at k (omega arith), at place within);
    }
    )

module _ {S F : Type 0} {steps : S → Option Item → S → Type 0} {g : Mut F (Bor Item × Unit {0}) ℕ} {s : S} {f : F} (line : List WaitingRequest) where
  pub picks_shortest : (r : Option Item) (place : Option ℕ) → place ≡ option_map (λ p. p.0) r → PicksMinByKey steps g nat_cmp s f r → YieldsList steps numbered s (enumerate_from 0 line) → ((x : Item) (n : ℕ) (q : F) → CalledAt g f x n q → q ≡ f) → ((x y : Item) (n m : ℕ) (q r : F) → x.0 < y.0 → CalledAt g f x n q → CalledAt g f y m r → (m < n → y.1.now.left < x.1.now.left) × (y.1.now.left < x.1.now.left → m < n)) → Shortest line place
  picks_shortest None place is d e stays keyed = subst (Shortest line) (sym is) (nobody line (items_from_drains [] (d.1.0, d.1.1, λ _. (d.0, d.1.2)) e)) where
    nobody : (line : List WaitingRequest) → map numbered [] ≡ enumerate_from 0 line → line ≡ []
    nobody [] h = refl
    nobody (q ∷ line) h = cc
  picks_shortest (Some y) place is (x, xs, k, f', q, d, called, folds) e stays keyed =
      let all : map numbered (x ∷ xs) ≡ enumerate_from 0 line = items_from_drains (x ∷ xs) (d.1.0, d.1.1, λ _. (d.0, d.1.2)) e in
      let t = tail_numbered 0 x xs line all in
      subst (Shortest line) (sym is) (
      least_numbered line (numbered y) (numbered x) (map numbered xs) all (least_folds g f stays keyed xs 1 t.1 ((f', k), x) (q, y) f' t.2 (omega (arith, t.0)) (stays x k f' called) called folds)
      )
