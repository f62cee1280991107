use Rattle.cg_exp.proofs.Halving.{halvings-IsHalving, halving_few}
use Rattle.cg_exp.proofs.Recipes.{IsArgument, exp_neg-IsExpNeg, exp_neg-IsBounded}
use Rattle.cg_exp.proofs.exp_neg.Goals as goal

in_range : (c : goal.After-recipe) → IsArgument c.args.p c.args.q
in_range c = record { some = c.requires.some; reach = c.requires.reach }

pub returns-clause-halving : goal.returns-clause-halving
returns-clause-halving c = halvings-IsHalving c.args.p c.args.q c.requires.reach

pub returns-clause-lower : goal.returns-clause-lower
returns-clause-lower c = λ h v. rw c.recipe.ensures (exp_neg-IsExpNeg c.args.p c.args.q h (in_range c) v).lower

pub returns-clause-upper : goal.returns-clause-upper
returns-clause-upper c = λ h v. rw c.recipe.ensures (exp_neg-IsExpNeg c.args.p c.args.q h (in_range c) v).upper

pub returns-clause-between : goal.returns-clause-between
returns-clause-between c = λ h n d v more less. rw c.recipe.ensures ((exp_neg-IsExpNeg c.args.p c.args.q h (in_range c) v).between n d more less)

pub returns-clause-some_bound : goal.returns-clause-some_bound
returns-clause-some_bound c = λ h v. (exp_neg-IsExpNeg c.args.p c.args.q h (in_range c) v).some

pub returns-clause-ordered : goal.returns-clause-ordered
returns-clause-ordered c = λ h v. (exp_neg-IsExpNeg c.args.p c.args.q h (in_range c) v).ordered

pub returns-clause-few : goal.returns-clause-few
returns-clause-few c = λ h v. halving_few c.args.p c.args.q h c.requires.reach v

pub returns-clause-loss : goal.returns-clause-loss
returns-clause-loss c = λ h v. rw c.recipe.ensures (exp_neg-IsExpNeg c.args.p c.args.q h (in_range c) v).loss

pub returns-clause-most_loss : goal.returns-clause-most_loss
returns-clause-most_loss c = rw c.recipe.ensures (exp_neg-IsBounded c.args.p c.args.q (in_range c)).loss

pub returns-clause-exponent : goal.returns-clause-exponent
returns-clause-exponent c = rw c.recipe.ensures (exp_neg-IsBounded c.args.p c.args.q (in_range c)).exponent

pub returns-clause-positive : goal.returns-clause-positive
returns-clause-positive c = rw c.recipe.ensures (exp_neg-IsBounded c.args.p c.args.q (in_range c)).positive

pub returns-clause-firm : goal.returns-clause-firm
returns-clause-firm c = rw c.recipe.ensures (exp_neg-IsBounded c.args.p c.args.q (in_range c)).firm
