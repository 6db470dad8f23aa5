use Rattle.std.proofs.Common.{map, ◌++◌, sym, ap, ◌∙◌, arith}
use Rattle.lvish_checks.specs.Text.{words_of}
use Rattle.lvish_checks.proofs.Pieces.{ended_early, ended, went_on}
use Rattle.lvish_checks.proofs.text.put_words.Goals as goal

pub returns-then-is_comment-clause-words : goal.returns-then-is_comment-clause-words
returns-then-is_comment-clause-words c = ended_early c.loop-rest.rest.now c.piece_length-length.result c.piece_length-length.ensures.place (map (λ w. w.now) c.loop-rest.words.items) (map (λ w. w.now) c.loop-rest.words.items) c.args.line.now c.loop-rest.invariant c.piece_length-length.ensures.most (sym c.is_comment.ensures ∙ c.if-is_comment.true)

pub returns-then-length-rest-clause-words : goal.returns-then-length-rest-clause-words
returns-then-length-rest-clause-words c = ended c.loop-rest.rest.now c.piece_length-length.result c.piece_length-length.ensures.place (map (λ w. w.now) c.loop-rest.words.items) (map (λ w. w.now) c.put_piece.new.words.items) c.args.line.now c.loop-rest.invariant (omega (arith, c.piece_length-length.ensures.most, c.if-length-rest.true)) (sym c.is_comment.ensures ∙ c.if-is_comment.false) c.in_ok-put_piece.ensures.put

pub loop-rest-preserved : goal.loop-rest-preserved
loop-rest-preserved c = ap (λ rest. map (λ w. w.now) c.put_piece.new.words.items ++ words_of rest) c.behind-rest.ensures.rest ∙ went_on c.loop-rest.rest.now c.piece_length-length.result c.piece_length-length.ensures.place (map (λ w. w.now) c.loop-rest.words.items) (map (λ w. w.now) c.put_piece.new.words.items) c.args.line.now c.loop-rest.invariant c.if-length-rest.false (sym c.is_comment.ensures ∙ c.if-is_comment.false) c.in_ok-put_piece.ensures.put
