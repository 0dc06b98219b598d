-- `words::decimal` calls itself: the measure is the number.
use Rattle.words.proofs.+decimal.Given as goal

abbrev pub decreases-decimal : goal.decreases-decimal
decreases-decimal l = l.v
