use Rattle.std.proofs.Common.{◌∙◌, [], ap, sym, inl}
use Rattle.book_text.specs.BookText.{book_of}
use Rattle.book_commands.specs.Sample.{released_text}
use Rattle.book_commands.specs.declared.run_status.RunStatus.TheVariants.{Done}
use Rattle.book_commands.proofs.sample.released_reply.Goals as goal

pub returns : goal.returns
returns c = record {
  book = c.args.released.now.book;
  reads = sym (ap book_of c.requires) ∙ c.book-book.ensures.release.reads;
  answer = inl (record {
    cert = c.args.released.now.cert;
    accepted = c.book-book.ensures.release.accepted;
    answer = c.plain.ensures ∙ ap (λ text. record { text = text; status = Done; notes = [] }) (c.in_ok-text.ensures ∙ ap (released_text c.args.size.now) c.book-book.ensures.value);
  });
}
