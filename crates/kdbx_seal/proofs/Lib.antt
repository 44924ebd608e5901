mod HashedDocs
mod Refusals
mod WrittenDocs
mod MadeFiles
mod Padded
