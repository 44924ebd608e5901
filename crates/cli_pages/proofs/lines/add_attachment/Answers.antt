use Rattle.cli_pages.proofs.lines.add_attachment.Goals as goal

pub returns-in-FileBesideStdout : goal.returns-in-FileBesideStdout
returns-in-FileBesideStdout c = rw c.in-FileBesideStdout.is (rw c.as_str.ensures at c.add_around.ensures)

pub returns-in-NoFileOrStdout : goal.returns-in-NoFileOrStdout
returns-in-NoFileOrStdout c = rw c.in-NoFileOrStdout.is c.add.ensures.ok

pub returns-in-EmptyAttachmentName : goal.returns-in-EmptyAttachmentName
returns-in-EmptyAttachmentName c = rw c.in-EmptyAttachmentName.is c.add-in-EmptyAttachmentName.ensures.ok
