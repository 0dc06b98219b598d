-- What a read put into the rest of the buffer stands after what was read before.
use Rattle.std.proofs.Common.{rules, ◌≡◌, ℕ, ◌+◌, ◌≤◌, List, ◌++◌, length, take, ap, sym, subst, ◌∙◌, length-take-le}
use lib.Seq.{take-append-le, take-append-add}
use borrow.Rule.Slice.PartMut.{put_mid, post_of}
use Rattle.std.proofs.KnownBytes.{Consumes-trans}
use Rattle.std.specs.Io.KnownBytes.{Consumes}
use Rattle.input.proofs.read_full.Goals as goal

read_more : (a k n : ℕ) (xs ys : List ℕ) → a ≤ length xs → n ≤ length ys → take (a + n) (put_mid a k xs ys) ≡ take a xs ++ take n ys
read_more a k n xs ys p q =
    let e : length (take a xs) ≡ a = length-take-le a xs p in
    let f : take (length (take a xs) + n) (take a xs ++ (ys ++ post_of a k xs)) ≡ take a xs ++ take n (ys ++ post_of a k xs) = take-append-add (take a xs) _ n in
    ap (λ m. take (m + n) (put_mid a k xs ys)) (sym e) ∙ f ∙ ap (λ l. take a xs ++ l) (take-append-le n ys _ q)

pub loop-done-preserved : goal.loop-done-preserved
loop-done-preserved g c =
    let l = c.loop-done in
    (search rules, search rules, subst (Consumes _ _) (sym (read_more l.done _ c.in_ok-n.n l.buf c.read.new.buf l.invariant.0 c.in_ok-n.ensures.bound.0)) (Consumes-trans _ _ _ _ _ l.invariant.2 c.in_ok-n.ensures.bytes.0))
